-- IEEE 754's fused multiply-add (01-scope.md, "Fused multiply-add and parity"), as a total function on the logic's floats (`lib.Ieee`). Definitions only.
use Rattle.std.specs.Prelude.{◌*◌, cond, eqb, Float}
use Rattle.std.specs.Float.{nan, inf, fin, Format}
use Rattle.std.specs.Float.Ieee.{up, down, unlike, sum, add}

-- `f64::mul_add`: x * y + z, rounded once. The product's fraction is m * up e * (n * up d) / (down e * down d), with nothing rounded.
unfoldable pub fma : Format → Float → Float → Float → Float
unfolding sum add
fma f nan y z = nan
fma f (inf s) nan z = nan
fma f (inf s) (inf t) z = add f (inf (unlike s t)) z
fma f (inf s) (fin t n d) z = cond (eqb n 0) nan (add f (inf (unlike s t)) z)
fma f (fin s m e) nan z = nan
fma f (fin s m e) (inf t) z = cond (eqb m 0) nan (add f (inf (unlike s t)) z)
fma f (fin s m e) (fin t n d) nan = nan
fma f (fin s m e) (fin t n d) (inf u) = inf u
fma f (fin s m e) (fin t n d) (fin u o g) = sum f (unlike s t) (m * up e * (n * up d) * down g) u (o * up g * (down e * down d)) (down e * down d * down g)
