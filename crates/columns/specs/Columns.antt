-- Columns of a line and the flags that they read (01-scope.md, "Start search", "Slant and rate"). Definitions only.
use Rattle.std.specs.Prelude.{ℕ, zero, suc, List, [], ◌∷◌, ◌++◌, Float}
use Rattle.std.specs.Float.{binary64}
use Rattle.std.specs.Float.Ieee.{mul, div, of_int, to_unsigned}
use Rattle.ieee.specs.Numbers.{of_nat}
unfoldable pub use Rattle.std.specs.Float.Ieee.{of_bits}

-- f 0, f 1, .. f (n - 1)
unfoldable pub list_to : {A : Type 0} → (ℕ → A) → ℕ → List A
list_to f zero = []
list_to f (suc n) = list_to f n ++ (f n ∷ [])

-- x / w: the part of a line of w columns that lies before column x
unfoldable pub column_part : ℕ → ℕ → Float
unfolding div of_int
column_part w x = div binary64 (of_nat x) (of_nat w)

-- cut(time × samples / 4): the number of the flag that covers a time, for the samples in a unit of time
unfoldable pub probe_of : Float → Float → ℕ
unfolding mul div to_unsigned of_int
probe_of time samples = to_unsigned 64 (div binary64 (mul binary64 time samples) (of_nat 4))
