-- The fold of a window of flags (01-scope.md, "Start search"): how many lines have a flag set, for each of 700 columns.
-- The float steps are those of `probe_at` and `evaluate` of sync_start.rs, in their order. Definitions only.
use Rattle.std.specs.Prelude.{ℕ, zero, suc, ◌+◌, cond, List, get_or, eqb, Float}
use Rattle.std.specs.Float.{binary64}
use Rattle.std.specs.Float.Ieee.{add}
use Rattle.ieee.specs.Numbers.{of_nat}
use Rattle.modespec.specs.declared.ModeSpec.{ModeSpec}
use Rattle.modespec.specs.Sizes.{line_samples, window_lines}
use Rattle.columns.specs.Columns.{list_to, column_part, probe_of}

-- y + x / 700: where column x of line y lies, in lines
unfoldable pub lines_at : ℕ → ℕ → Float
lines_at y x = add binary64 (of_nat y) (column_part 700 x)

-- 1 where the flag so many lines into the window is set: that of number cut(lines × line samples / 4), as `probe_at` says.
-- A window is the flags from its first to the last one taken; beyond it a flag reads 0.
unfoldable pub hit_by : Float → List ℕ → Float → ℕ
hit_by samples window lines = cond (eqb (get_or window (probe_of lines samples) 0) 0) 0 1

-- the same, for column x of line y
unfoldable pub hit_at : Float → List ℕ → ℕ → ℕ → ℕ
hit_at samples window y x = hit_by samples window (lines_at y x)

-- how many of the first n lines have the flag at column x set
unfoldable pub hits_to : Float → List ℕ → ℕ → ℕ → ℕ
hits_to samples window x zero = 0
hits_to samples window x (suc n) = hits_to samples window x n + hit_at samples window n x

-- the counts of the 700 columns over n lines
unfoldable pub fold_to : Float → List ℕ → ℕ → List ℕ
fold_to samples window n = list_to (λ x. hits_to samples window x n) 700

-- the counts over all the window's lines
unfoldable pub fold_of : ModeSpec → List ℕ → List ℕ
fold_of spec window = fold_to (line_samples spec) window (window_lines spec)
