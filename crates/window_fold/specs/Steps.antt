-- What the inner functions of the fold (01-scope.md, "Start search") compute: a line's places first, and then the flags there. Definitions only.
use Rattle.std.specs.Prelude.{ℕ, ◌+◌, cond, List, get_or, eqb, Float}
use Rattle.columns.specs.Columns.{list_to, probe_of}
use Rattle.window_fold.specs.Fold.{lines_at}

-- 1 where flag i of a window is set
unfoldable pub bit_at : List ℕ → ℕ → ℕ
bit_at window i = cond (eqb (get_or window i 0) 0) 0 1

-- the numbers of the flags that the 700 columns of line y read
unfoldable pub places_of : Float → ℕ → List ℕ
places_of samples y = list_to (λ x. probe_of (lines_at y x) samples) 700

-- 700 counts, each with the flag at its place added
unfoldable pub added_to : List ℕ → List ℕ → List ℕ → List ℕ
added_to window places counts = list_to (λ x. get_or counts x 0 + bit_at window (get_or places x 0)) 700
