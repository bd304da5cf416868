-- Sums over memory. Definitions only.
use Rattle.std.specs.Prelude.{ℕ, ◌≡◌, ◌%◌, ◌^◌, List, sum}
use Rattle.std.specs.List.{AllZip}

-- the sum of what the values convert to, of which 64 bits are kept
abbrev pub IsSumOf : {A : Type 0} → (A → ℕ → Type 0) → List A → ℕ → Type 0
IsSumOf converts xs s = (ys : List ℕ) × AllZip converts xs ys × (s ≡ sum ys % 2 ^ 64)
