-- When a float has a bit pattern, by the test whether it is a NaN. Assumes nothing.
use Rattle.std.proofs.Common.{◌≡◌, ℕ, true, false, eqb, T, refl, sym, ap, subst}
use lib.Ieee.{Float, nan, inf, fin, Format, ne, is_nan, of_bits, to_bits}
use lib.Ieee.Bits.{nan_bits_is}
use lib.Ieee.Compare.{differs_from_itself}
use Rattle.words.specs.Words.{has_bits}

pub is_nan_lem : (x : Float) → is_nan x ≡ true → x ≡ nan
unfolding is_nan
is_nan_lem nan h = refl
is_nan_lem (inf s) h = absurd (mathlib.Core.Bool.true≢false (sym h))
is_nan_lem (fin s m e) h = absurd (mathlib.Core.Bool.true≢false (sym h))

-- the pattern that the definition writes for a NaN
pub nan_bits_lem : (f : Format) (x : Float) → ne x x ≡ true → to_bits f nan ≡ to_bits f x
nan_bits_lem f x h = ap (to_bits f) (sym (differs_from_itself x (subst T (sym h) tt)))

pub nan_has : (f : Format) (x : Float) (n : ℕ) → is_nan x ≡ true → is_nan (of_bits f n) ≡ has_bits f x n
unfolding has_bits
nan_has f x n h = rw (h, nan_bits_is f n)

pub number_has : (f : Format) (x : Float) (n : ℕ) → is_nan x ≡ false → eqb (to_bits f x) n ≡ has_bits f x n
unfolding has_bits
number_has f x n h = rw h
