-- Laws of a test on every number of a list. Assumes nothing.
use Rattle.std.proofs.Common.{◌≡◌, refl, ap, Bool, ◌&&◌, List, [], ◌∷◌}
use Rattle.std.specs.Float.{float_is_finite}
use Rattle.std.specs.List.{list_all}
use lib.Ieee.{Float, nan, inf, fin}
use Rattle.probe.specs.Refusals.{all_of, is_finite}

-- std's test is this one
finite_is : (x : Float) → float_is_finite x ≡ is_finite x
unfolding float_is_finite is_finite
finite_is nan = refl
finite_is (inf s) = refl
finite_is (fin s m e) = refl

pub all_is : (xs : List Float) → list_all float_is_finite xs ≡ all_of is_finite xs
unfolding all_of
all_is [] = refl
all_is (x ∷ xs) = rw (finite_is x) (ap (λ (b : Bool). is_finite x && b) (all_is xs))
