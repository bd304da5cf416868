-- What the proofs of `Term::of_pattern` and `mul_add` cite. Assumes nothing.
use mathlib.Core.Path.{◌≡◌, refl, sym, ap, ◌∙◌, subst}
use mathlib.Core.Bool.{Bool, true, false, not, cond, false≢true}
use Prim.Native.Nat.{ℕ, suc, ◌+◌, ◌-◌, ◌*◌, ◌/◌, ◌%◌, ◌^◌, ◌≤◌, ◌<◌}
use native.Mathlib.Nat.{mul_comm, mul_assoc, mul_left_comm, mul_right_comm, mul-pos, mod-lt, pow-succ', eq_of_mul-eq-mul_right}
use native.Mathlib.Omega.{arith}
use lib.Dec.{T, leb, eqb, leb→le, nleb→lt}
use lib.Pow.{pow-add, pow_pos, field, mod-pow-add}
use lib.Bits.{bit_and, and_mask}
use lib.Ieee.{Float, nan, inf, fin, Format, binary64, up, down, unlike, sum, add, mul, fits, is_nan, of_fields, of_bits, to_bits}
use lib.Ieee.Fits.{down_pos}
use lib.Ieee.Bits.{of_bits-to_bits}
use lib.Ieee.Exact.{HasValue}
use Rattle.std.specs.Float.{float_is_finite}
use Rattle.fma.specs.Fma.{fma}
use Rattle.ieee.specs.Patterns.{lead, expo}
use Rattle.ieee.proofs.Pack.{of_bits_is, fields_val}
use Rattle.ieee.proofs.View as View
use Rattle.ieee.proofs.Order.{yes}
use Rattle.fma.specs.Near.{Summed, Finite, Special, nan_operand, inf_operand}
use Rattle.fma.proofs.Sums.{sum_frac}
use Rattle.fma.proofs.Limbs.{Held}

-- ---- the value of a pattern
pub finite_value : (b : ℕ) → Finite b → HasValue (of_bits binary64 b) (leb (2 ^ 63) b) (lead binary64 (b / 2 ^ 52 % 2 ^ 11) (b % 2 ^ 52) * 2 ^ expo (b / 2 ^ 52 % 2 ^ 11)) (2 ^ 1074)
finite_value b u =
    subst (λ (v : Float). HasValue v (leb (2 ^ 63) b) (lead binary64 (b / 2 ^ 52 % 2 ^ 11) (b % 2 ^ 52) * 2 ^ expo (b / 2 ^ 52 % 2 ^ 11)) (2 ^ 1074))
    (sym (of_bits_is binary64 b ∙ ap (λ (z : ℕ). of_fields binary64 (leb (2 ^ 63) b) z (b % 2 ^ 52)) (field b 11 52)))
    (fields_val binary64 (leb (2 ^ 63) b) (b / 2 ^ 52 % 2 ^ 11) (b % 2 ^ 52) u.below)

pub sign_is : (b : ℕ) → b < 2 ^ 64 → eqb (b / 2 ^ 63) 1 ≡ leb (2 ^ 63) b
sign_is b h = go (leb (2 ^ 63) b) (leb→le (2 ^ 63) b) (nleb→lt (2 ^ 63) b)
  where
    at_one : 2 ^ 63 ≤ b → b / 2 ^ 63 ≡ 1
    at_one k = omega arith

    at_none : b < 2 ^ 63 → b / 2 ^ 63 ≡ 0
    at_none k = omega arith

    go : (t : Bool) → (T t → 2 ^ 63 ≤ b) → (T (not t) → b < 2 ^ 63) → eqb (b / 2 ^ 63) 1 ≡ t
    go true k l = ap (λ (z : ℕ). eqb z 1) (at_one (k tt))
    go false k l = ap (λ (z : ℕ). eqb z 1) (at_none (l tt))

-- ---- `fma`, by any fractions over K that the three values equal
first : (M N de dd dg X Y K : ℕ) → M * K ≡ X * de → N * K ≡ Y * dd → M * N * dg * (K * K) ≡ X * Y * (de * dd * dg)
first M N de dd dg X Y K p q =
    let a : M * N * dg * (K * K) ≡ M * K * (N * K) * dg = simp (mul_assoc, mul_comm, mul_left_comm) in
    let b : X * de * (Y * dd) * dg ≡ X * Y * (de * dd * dg) = simp (mul_assoc, mul_comm, mul_left_comm) in
    a ∙ ap (λ (z : ℕ). z * (N * K) * dg) p ∙ ap (λ (z : ℕ). X * de * z * dg) q ∙ b

second : (O de dd dg Z K : ℕ) → O * K ≡ Z * dg → O * (de * dd) * (K * K) ≡ Z * K * (de * dd * dg)
second O de dd dg Z K p =
    let a : O * (de * dd) * (K * K) ≡ O * K * (K * (de * dd)) = simp (mul_assoc, mul_comm, mul_left_comm) in
    let b : Z * dg * (K * (de * dd)) ≡ Z * K * (de * dd * dg) = simp (mul_assoc, mul_comm, mul_left_comm) in
    a ∙ ap (λ (z : ℕ). z * (K * (de * dd))) p ∙ b

pub fma_at : (f : Format) (x y z : Float) (s t u : Bool) (X Y Z K : ℕ) → 0 < K → HasValue x s X K → HasValue y t Y K → HasValue z u Z K → fma f x y z ≡ sum f (unlike s t) (X * Y) u (Z * K) (K * K)
unfolding fma
fma_at f nan y z s t u X Y Z K p a b c = absurd a
fma_at f (inf s') y z s t u X Y Z K p a b c = absurd a
fma_at f (fin s' m e) nan z s t u X Y Z K p a b c = absurd b
fma_at f (fin s' m e) (inf t') z s t u X Y Z K p a b c = absurd b
fma_at f (fin s' m e) (fin t' n d) nan s t u X Y Z K p a b c = absurd c
fma_at f (fin s' m e) (fin t' n d) (inf u') s t u X Y Z K p a b c = absurd c
fma_at f (fin s' m e) (fin t' n d) (fin u' o g) s t u X Y Z K p a b c =
    let A = m * up e * (n * up d) * down g in
    let B = o * up g * (down e * down d) in
    let C = down e * down d * down g in
    ap (λ (w : Bool). sum f (unlike w t') A u' B C) a.0
    ∙ ap (λ (w : Bool). sum f (unlike s w) A u' B C) b.0
    ∙ ap (λ (w : Bool). sum f (unlike s t) A w B C) c.0
    ∙ sum_frac f (unlike s t) u A B C (X * Y) (Z * K) (K * K) (mul-pos (mul-pos (down_pos e) (down_pos d)) (down_pos g)) (mul-pos p p)
    (first (m * up e) (n * up d) (down e) (down d) (down g) X Y K a.1 b.1)
    (second (o * up g) (down e) (down d) (down g) Z K c.1)

-- ---- a pattern's value as `Term::of_pattern` has it
rescaled : (v : Float) (s : Bool) (a c a' c' : ℕ) → 0 < c → HasValue v s a c → a * c' ≡ a' * c → HasValue v s a' c'
rescaled nan s a c a' c' C h e = absurd h
rescaled (inf t) s a c a' c' C h e = absurd h
rescaled (fin t m k) s a c a' c' C h e = (
  h.0,
  eq_of_mul-eq-mul_right c C (m * up k * c') (a' * down k)
      (mul_right_comm (m * up k) c' c ∙ ap (λ (z : ℕ). z * c') h.1 ∙ mul_right_comm a (down k) c' ∙ ap (λ (z : ℕ). z * down k) e ∙ mul_right_comm a' c (down k)),
)

pub term_value : (b q x : ℕ) → Finite b → Held (b / 2 ^ 52 % 2 ^ 11) (b % 2 ^ 52) q x → HasValue (of_bits binary64 b) (eqb (b / 2 ^ 63) 1) (q * 2 ^ x) (2 ^ 2253)
term_value b q x u h =
    let A = lead binary64 (b / 2 ^ 52 % 2 ^ 11) (b % 2 ^ 52) * 2 ^ expo (b / 2 ^ 52 % 2 ^ 11) in
    let same : q * 2 ^ x ≡ A * 2 ^ 1179 =
    ap (λ (z : ℕ). q * 2 ^ z) (sym (back x h.least)) ∙ ap (λ (z : ℕ). q * z) (pow-add 2 (x - 1127) 1127) ∙ sym (mul_assoc q (2 ^ (x - 1127)) (2 ^ 1127)) ∙ ap (λ (z : ℕ). z * 2 ^ 1127) h.value.value ∙ mul_assoc A (2 ^ 52) (2 ^ 1127) in
    subst (λ (v : Bool). HasValue (of_bits binary64 b) v (q * 2 ^ x) (2 ^ 2253)) (sym (sign_is b u.fits))
    (rescaled (of_bits binary64 b) (leb (2 ^ 63) b) A (2 ^ 1074) (q * 2 ^ x) (2 ^ 2253) (pow_pos 1074) (finite_value b u)
    (sym (ap (λ (z : ℕ). z * 2 ^ 1074) same ∙ mul_assoc A (2 ^ 1179) (2 ^ 1074))))
  where
    back : (x : ℕ) → 1127 ≤ x → x - 1127 + 1127 ≡ x
    back x l = omega arith

-- ---- the sum of the terms is `fma` of the three values
module _ (x y z : Float) (Fx : fits binary64 x ≡ true) (Fy : fits binary64 y ≡ true) (Fz : fits binary64 z ≡ true) (s t u : Bool) (q j r k o l : ℕ)
    (X : HasValue (of_bits binary64 (to_bits binary64 x)) s (q * 2 ^ j) (2 ^ 2253)) (Y : HasValue (of_bits binary64 (to_bits binary64 y)) t (r * 2 ^ k) (2 ^ 2253))
    (Z : HasValue (of_bits binary64 (to_bits binary64 z)) u (o * 2 ^ l) (2 ^ 2253)) (J : 1127 ≤ j) (K : 1127 ≤ k) where
  back : (v : Float) (w : Bool) (n : ℕ) → fits binary64 v ≡ true → HasValue (of_bits binary64 (to_bits binary64 v)) w n (2 ^ 2253) → HasValue v w n (2 ^ 2253)
  back v w n F h = subst (λ (a : Float). HasValue a w n (2 ^ 2253)) (of_bits-to_bits binary64 v (yes F)) h

  -- the product's fraction, with one factor 2 ^ 2253 of its denominator in its digits
  product : q * 2 * r * 2 ^ (j + k - 2254) * 2 ^ 2253 ≡ q * 2 ^ j * (r * 2 ^ k)
  product =
      let a : q * 2 * r * 2 ^ (j + k - 2254) * 2 ^ 2253 ≡ q * r * (2 * (2 ^ (j + k - 2254) * 2 ^ 2253)) = simp (mul_assoc, mul_comm, mul_left_comm) in
      let b : q * 2 ^ j * (r * 2 ^ k) ≡ q * r * (2 ^ j * 2 ^ k) = simp (mul_assoc, mul_comm, mul_left_comm) in
      a
      ∙ ap (λ (n : ℕ). q * r * (2 * n)) (sym (pow-add 2 (j + k - 2254) 2253))
      ∙ ap (λ (n : ℕ). q * r * n) (sym (pow-succ' 2 (j + k - 2254 + 2253)) ∙ ap (λ (n : ℕ). 2 ^ n) (places j k J K) ∙ pow-add 2 j k)
      ∙ sym b
    where
      places : (j k : ℕ) → 1127 ≤ j → 1127 ≤ k → suc (j + k - 2254 + 2253) ≡ j + k
      places j k a b = omega arith

  pub fma_terms : (v : Float) → Summed (unlike s t) (q * 2 * r) (j + k - 2254) u o l v → v ≡ fma binary64 x y z
  fma_terms v h =
      let D = 2 ^ 2253 in
      let P = q * 2 * r * 2 ^ (j + k - 2254) in
      let O = o * 2 ^ l in
      h.is
      ∙ sum_frac binary64 (unlike s t) u P O D (q * 2 ^ j * (r * 2 ^ k)) (O * D) (D * D) (pow_pos 2253) (mul-pos (pow_pos 2253) (pow_pos 2253))
      (sym (mul_assoc P D D) ∙ ap (λ (n : ℕ). n * D) product) (sym (mul_assoc O D D))
      ∙ sym (fma_at binary64 x y z s t u (q * 2 ^ j) (r * 2 ^ k) O D (pow_pos 2253) (back x s (q * 2 ^ j) Fx X) (back y t (r * 2 ^ k) Fy Y) (back z u O Fz Z))

-- ---- a value's pattern where std calls it finite, and what it is where not
m_is : (x : Float) (F : T (fits binary64 x)) → bit_and (to_bits binary64 x) (2 ^ 63 - 1) ≡ View.E x F * 2 ^ 52 + View.t x F
m_is x F = and_mask (to_bits binary64 x) 63 ∙ mod-pow-add (to_bits binary64 x) 11 52

number : (x : Float) → float_is_finite x ≡ true → T (not (is_nan x))
unfolding float_is_finite is_nan
number nan h = absurd (false≢true h)
number (inf s) h = tt
number (fin s m e) h = tt

no_inf : (s : Bool) → float_is_finite (inf s) ≡ true → ⊥
unfolding float_is_finite
no_inf s h = false≢true h

pub finite_pattern : (x : Float) → fits binary64 x ≡ true → float_is_finite x ≡ true → Finite (to_bits binary64 x)
finite_pattern x F h =
    let t : T (fits binary64 x) = yes F in
    record {
      fits = View.b_lt x t;
      below = less (View.E x t) (mod-lt (to_bits binary64 x / 2 ^ 52) (pow_pos 11)) (λ (e : View.E x t ≡ 2047). no_inf (View.sign x t) (ap float_is_finite (sym (View.infinite x t (number x h) e)) ∙ h));
    }
  where
    less : (E : ℕ) → E < 2 ^ 11 → (E ≡ 2047 → ⊥) → E < 2047
    less E a n = omega arith

special : (x : Float) → float_is_finite x ≡ false → Special x
unfolding float_is_finite
special nan h = nan_operand refl
special (inf s) h = inf_operand s refl
special (fin s m e) h = absurd (false≢true (sym h))

-- ---- a factor that is special
pick : (b : Bool) (w : Bool) (z : Float) → add binary64 (cond b nan (inf w)) z ≡ cond b nan (add binary64 (inf w) z)
unfolding add
pick true w z = refl
pick false w z = refl

by_nan : (y z : Float) → add binary64 (mul binary64 nan y) z ≡ fma binary64 nan y z
unfolding add mul fma
by_nan y z = refl

by_inf : (s : Bool) (y z : Float) → add binary64 (mul binary64 (inf s) y) z ≡ fma binary64 (inf s) y z
unfolding add mul fma
by_inf s nan z = refl
by_inf s (inf t) z = refl
by_inf s (fin t n d) z = pick (eqb n 0) (unlike s t) z

by_special : (x y z : Float) → Special x → add binary64 (mul binary64 x y) z ≡ fma binary64 x y z
by_special x y z (nan_operand p) = subst (λ (v : Float). add binary64 (mul binary64 v y) z ≡ fma binary64 v y z) (sym p) (by_nan y z)
by_special x y z (inf_operand s p) = subst (λ (v : Float). add binary64 (mul binary64 v y) z ≡ fma binary64 v y z) (sym p) (by_inf s y z)

pub special_left : (x y z : Float) → float_is_finite x ≡ false → add binary64 (mul binary64 x y) z ≡ fma binary64 x y z
special_left x y z h = by_special x y z (special x h)

on_nan : (x z : Float) → add binary64 (mul binary64 x nan) z ≡ fma binary64 x nan z
unfolding add mul fma
on_nan nan z = refl
on_nan (inf s) z = refl
on_nan (fin s m e) z = refl

on_inf : (x : Float) (t : Bool) (z : Float) → add binary64 (mul binary64 x (inf t)) z ≡ fma binary64 x (inf t) z
unfolding add mul fma
on_inf nan t z = refl
on_inf (inf s) t z = refl
on_inf (fin s m e) t z = pick (eqb m 0) (unlike s t) z

on_special : (x y z : Float) → Special y → add binary64 (mul binary64 x y) z ≡ fma binary64 x y z
on_special x y z (nan_operand p) = subst (λ (v : Float). add binary64 (mul binary64 x v) z ≡ fma binary64 x v z) (sym p) (on_nan x z)
on_special x y z (inf_operand s p) = subst (λ (v : Float). add binary64 (mul binary64 x v) z ≡ fma binary64 x v z) (sym p) (on_inf x s z)

pub special_right : (x y z : Float) → float_is_finite y ≡ false → add binary64 (mul binary64 x y) z ≡ fma binary64 x y z
special_right x y z h = on_special x y z (special y h)

-- ---- a z that is special, where x and y are finite
plus_nan : (x y : Float) → float_is_finite x ≡ true → float_is_finite y ≡ true → nan ≡ fma binary64 x y nan
unfolding float_is_finite fma
plus_nan nan y a b = absurd (false≢true a)
plus_nan (inf s) y a b = absurd (false≢true a)
plus_nan (fin s m e) nan a b = absurd (false≢true b)
plus_nan (fin s m e) (inf t) a b = absurd (false≢true b)
plus_nan (fin s m e) (fin t n d) a b = refl

plus_inf : (x y : Float) → float_is_finite x ≡ true → float_is_finite y ≡ true → (u : Bool) → inf u ≡ fma binary64 x y (inf u)
unfolding float_is_finite fma
plus_inf nan y a b u = absurd (false≢true a)
plus_inf (inf s) y a b u = absurd (false≢true a)
plus_inf (fin s m e) nan a b u = absurd (false≢true b)
plus_inf (fin s m e) (inf t) a b u = absurd (false≢true b)
plus_inf (fin s m e) (fin t n d) a b u = refl

plus_special : (x y z : Float) → float_is_finite x ≡ true → float_is_finite y ≡ true → Special z → z ≡ fma binary64 x y z
plus_special x y z a b (nan_operand p) = subst (λ (v : Float). v ≡ fma binary64 x y v) (sym p) (plus_nan x y a b)
plus_special x y z a b (inf_operand s p) = subst (λ (v : Float). v ≡ fma binary64 x y v) (sym p) (plus_inf x y a b s)

pub special_added : (x y z : Float) → float_is_finite x ≡ true → float_is_finite y ≡ true → float_is_finite z ≡ false → z ≡ fma binary64 x y z
special_added x y z a b h = plus_special x y z a b (special z h)
