-- Numbers that are taken from the front of a list, which may not have them. Definitions only.
use Rattle.std.specs.Prelude.{ℕ, List, [], ◌∷◌, length, take, cond, ltb}

abbrev pub first_or_zero : List ℕ → ℕ
first_or_zero [] = 0
first_or_zero (x ∷ xs) = x

-- the first n numbers, none unless all are there
abbrev pub all_or_none : ℕ → List ℕ → List ℕ
all_or_none n xs = cond (ltb (length xs) n) [] (take n xs)
