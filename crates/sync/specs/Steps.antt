-- What the inner functions of the final fold keep (01-scope.md, "Slant and rate"): columns added to the counts, columns that show flags in order, flags
-- that are not set. Definitions only.
use Rattle.std.specs.Prelude.{◌≡◌, ℕ, ◌+◌, ◌≤◌, ◌<◌, List, length, get_or, Float}
use Rattle.std.specs.Float.{nan, binary64}
use Rattle.std.specs.Float.Ieee.{add}
use Rattle.columns.specs.Columns.{probe_of}

-- to the counts of the first n columns f is added, and the others are as they were
pub record Added (f : ℕ → ℕ) (n : ℕ) (old new : List ℕ) : Type 0 where
  pub size : length new ≡ length old
  pub sum : (x : ℕ) → x < n → get_or new x 0 ≡ get_or old x 0 + f x
  pub rest : (x : ℕ) → (x < n → ⊥) → get_or new x 0 ≡ get_or old x 0

-- the same for the columns from a on and below b
pub record AddedIn (f : ℕ → ℕ) (a b : ℕ) (old new : List ℕ) : Type 0 where
  pub size : length new ≡ length old
  pub sum : (x : ℕ) → a ≤ x → x < b → get_or new x 0 ≡ get_or old x 0 + f x
  pub rest : (x : ℕ) → (a ≤ x → x < b → ⊥) → get_or new x 0 ≡ get_or old x 0

-- later columns never show earlier flags
abbrev pub Rising : Float → Float → List Float → Type 0
Rising rate start columns = (i j : ℕ) → i ≤ j → j < 700 → probe_of (add binary64 start (get_or columns i nan)) rate ≤ probe_of (add binary64 start (get_or columns j nan)) rate

-- no flag from `first` to `last` is set
abbrev pub Clear : List ℕ → ℕ → ℕ → Type 0
Clear flags first last = (i : ℕ) → first ≤ i → i ≤ last → get_or flags i 0 ≡ 0
