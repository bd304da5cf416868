-- std's order of floats is their comparison. Assumes nothing.
use Rattle.std.proofs.Common.{◌≡◌, refl, Bool, true, false, cond, ◌||◌, Some, None}
use Rattle.std.specs.Ordering.{float_partial_cmp, partial_le, is_some_and, is_le}
use Rattle.std.specs.declared.cmp.Ordering.TheVariants.{Less, Equal, Greater}
use lib.Ieee.{Float, lt, eq, le}

order_le : (a b c : Bool) → is_some_and is_le (cond a (Some Less) (cond b (Some Equal) (cond c (Some Greater) None))) ≡ a || b
order_le true b c = refl
order_le false true c = refl
order_le false false true = refl
order_le false false false = refl

pub float_le : (x y : Float) → partial_le float_partial_cmp x y ≡ le x y
unfolding le
float_le x y = order_le (lt x y) (eq x y) (lt y x)
