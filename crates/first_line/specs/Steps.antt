-- What the inner functions of the search for a narrow pulse (01-scope.md, "Start search") compute. Definitions only.
use Rattle.std.specs.Prelude.{ℕ, ◌+◌, Bool, cond, ◌==◌, Float}
use Rattle.std.specs.Float.Ieee.{le}
use Rattle.ieee.specs.Numbers.{of_nat}

-- a run with one flag more
abbrev pub run_with : ℕ → ℕ → ℕ
run_with run flag = cond (flag == 0) 0 (run + 1)

-- a run of n flags is long enough
abbrev pub enough : Float → ℕ → Bool
enough need n = le need (of_nat n)
