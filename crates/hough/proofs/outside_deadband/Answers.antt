-- `hough::outside_deadband` meets its contract. Assumes nothing.
use mathlib.Core.Path.{◌≡◌, refl, ap, ◌∙◌}
use mathlib.Core.Bool.{false}
use lib.Ieee.{Float, nan, inf, fin, binary64, of_bits, of_int, sub, lt}
use Rattle.std.specs.Float.{float_with_sign}
use Rattle.ieee.specs.Numbers.{of_nat, decimal}
use Rattle.hough.specs.Passes.{abs, outside_deadband}
use Rattle.hough.proofs.Halves.{half}
use Rattle.hough.proofs.outside_deadband.Goals as goal

abs_is : (x : Float) → float_with_sign false x ≡ abs x
unfolding float_with_sign
abs_is nan = refl
abs_is (inf s) = refl
abs_is (fin s m e) = refl

pub returns : goal.returns
unfolding outside_deadband of_bits of_int decimal
returns c = ap (λ (x : Float). lt half x) (c.abs.ensures.value ∙ abs_is (sub binary64 c.args.angle (of_nat 90)))
