-- std's definition of `f64::mul_add` and this crate's give one value. Assumes nothing.
use Rattle.std.proofs.Common.{◌≡◌, Bool, true, false, cond, eqb, refl}
use lib.Ieee.{Float, nan, inf, fin, Format, unlike, add, mul}
use Rattle.std.specs.Float.{float_mul_add}
use Rattle.fma.specs.Fma.{fma}

-- a NaN for a product stays one
either : (f : Format) (b : Bool) (x z : Float) → add f (cond b nan x) z ≡ cond b nan (add f x z)
unfolding add
either f true x z = refl
either f false x z = refl

pub same_value : (f : Format) (x y z : Float) → float_mul_add f x y z ≡ fma f x y z
unfolding float_mul_add fma add mul
same_value f nan y z = refl
same_value f (inf s) nan z = refl
same_value f (inf s) (inf t) z = refl
same_value f (inf s) (fin t n d) z = either f (eqb n 0) (inf (unlike s t)) z
same_value f (fin s m e) nan z = refl
same_value f (fin s m e) (inf t) z = either f (eqb m 0) (inf (unlike s t)) z
same_value f (fin s m e) (fin t n d) nan = refl
same_value f (fin s m e) (fin t n d) (inf u) = refl
same_value f (fin s m e) (fin t n d) (fin u o g) = refl
