-- The ranges of spectrum and shift (01-scope.md, "Numbers given by cause"). Definitions only.
use Rattle.std.specs.Prelude.{Bool, true, false, ◌&&◌, List, [], ◌∷◌, Float}
use Rattle.std.specs.Float.{nan, inf, fin}
use Rattle.std.specs.Float.Ieee.{le, neg}
use Rattle.ieee.specs.Numbers.{of_nat}

unfoldable pub all_of : (Float → Bool) → List Float → Bool
all_of p [] = true
all_of p (x ∷ xs) = p x && all_of p xs

-- lo <= x <= hi. With finite ends neither an infinity nor a NaN is between them.
unfoldable pub between : Float → Float → Float → Bool
between lo hi x = le lo x && le x hi

unfoldable pub is_finite : Float → Bool
is_finite nan = false
is_finite (inf s) = false
is_finite (fin s m e) = true

-- finite, and at most 5,000 Hz either way
unfoldable pub shift_allowed : Float → Bool
shift_allowed shift = between (neg (of_nat 5000)) (of_nat 5000) shift
