-- The rules of the angle tables (01-scope.md, "Angle tables"): each as it stands at an entry, and as a test of a whole table. Definitions only.
use Rattle.std.specs.Prelude.{◌≡◌, ℕ, suc, ◌+◌, ◌-◌, ◌*◌, ◌^◌, ◌≤◌, ◌<◌, Bool, true, false, ◌&&◌, List, [], ◌∷◌, get_or, leb, Float}
use Rattle.std.specs.Float.{nan, inf, fin}
use Rattle.std.specs.Float.Ieee.{up, down, lt}

-- ---- strictly falling

-- each entry is above the one after it
abbrev pub Falls : List Float → Type 0
Falls table = (q : ℕ) → q < 239 → lt (get_or table (suc q) nan) (get_or table q nan) ≡ true

unfoldable pub falls : List Float → Bool
unfolding lt
falls [] = true
falls (x ∷ []) = true
falls (x ∷ y ∷ xs) = lt y x && falls (y ∷ xs)

-- ---- the squares of sine and cosine

abbrev pub finite : Float → Bool
finite nan = false
finite (inf s) = false
finite (fin s m e) = true

-- the magnitude of a finite number is the exact quotient of these two whole numbers
abbrev pub numerator : Float → ℕ
numerator nan = 0
numerator (inf s) = 0
numerator (fin s m e) = m * up e

abbrev pub denominator : Float → ℕ
denominator nan = 1
denominator (inf s) = 1
denominator (fin s m e) = down e

-- x * x + y * y is the exact quotient of these two: the squares, and 1, counted in the same parts
abbrev pub squares : Float → Float → ℕ
squares x y = (numerator x * denominator y) ^ 2 + (numerator y * denominator x) ^ 2

abbrev pub one : Float → Float → ℕ
one x y = (denominator x * denominator y) ^ 2

-- x * x + y * y is within 2 ^ -50 of 1
pub record NearOne (x y : Float) : Type 0 where
  pub finite₁ : finite x ≡ true
  pub finite₂ : finite y ≡ true
  pub above : (2 ^ 50 - 1) * one x y ≤ 2 ^ 50 * squares x y
  pub below : 2 ^ 50 * squares x y ≤ (2 ^ 50 + 1) * one x y

-- at each place
abbrev pub Circle : List Float → List Float → Type 0
Circle sines cosines = (q : ℕ) → q < 240 → NearOne (get_or sines q nan) (get_or cosines q nan)

abbrev pub near_one : Float → Float → Bool
near_one x y = finite x && finite y && leb ((2 ^ 50 - 1) * one x y) (2 ^ 50 * squares x y) && leb (2 ^ 50 * squares x y) ((2 ^ 50 + 1) * one x y)

-- the lists are equally long
unfoldable pub circle : List Float → List Float → Bool
circle [] [] = true
circle [] (y ∷ ys) = false
circle (x ∷ xs) [] = false
circle (x ∷ xs) (y ∷ ys) = near_one x y && circle xs ys
