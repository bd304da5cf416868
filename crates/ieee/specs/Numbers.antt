-- Whole numbers and decimal fractions as `f64` values (01-scope.md, "Modes", and the constants of the other sections). Definitions only.
use Rattle.std.specs.Prelude.{ℕ, ◌^◌, false, pos, Float}
use Rattle.std.specs.Float.{binary64}
use Rattle.std.specs.Float.Ieee.{round, of_int}

-- a whole number as a float
abbrev pub of_nat : ℕ → Float
of_nat n = of_int binary64 (pos n)

-- n / 10 ^ k, as a literal is read: `decimal 50848 5` is 0.50848
unfoldable pub decimal : ℕ → ℕ → Float
unfolding round
decimal n k = round binary64 false n (10 ^ k)
