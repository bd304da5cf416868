-- The ranges of flags, counts and samples (01-scope.md, "Numbers given by cause"). Definitions only.
use Rattle.std.specs.Prelude.{ℕ, Bool, true, false, not, ◌&&◌, ◌||◌, List, [], ◌∷◌, leb, pos, Float}
use Rattle.std.specs.Float.{nan, inf, fin}
use Rattle.std.specs.Float.Ieee.{lt}

-- no number is above n
unfoldable pub all_at_most : ℕ → List ℕ → Bool
all_at_most n [] = true
all_at_most n (x ∷ xs) = leb x n && all_at_most n xs

-- 7: a flag above 1
abbrev pub any_above : List ℕ → Bool
any_above flags = not (all_at_most 1 flags)

-- 1.0
abbrev pub one : Float
one = fin false 1 (pos 0)

-- 8: a sample not finite or beyond 1 in magnitude
unfoldable pub unsound : Float → Bool
unfolding lt
unsound nan = true
unsound (inf s) = true
unsound (fin s m e) = lt one (fin false m e)

unfoldable pub any_unsound : List Float → Bool
unfolding unsound
any_unsound [] = false
any_unsound (x ∷ xs) = unsound x || any_unsound xs
