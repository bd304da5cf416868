-- A float compared with a power of two or with zero, and what that says of its casts to whole numbers. Assumes nothing.
use Rattle.std.proofs.Common.{◌≡◌, ℕ, zero, suc, ◌+◌, ◌-◌, ◌*◌, ◌/◌, ◌%◌, ◌^◌, ◌<◌, ◌≤◌, min, Bool, true, false, not, T, pos, sym, refl, subst, zero-le, le_of_eq, lt_of_lt_of_le, lt_of_le_of_lt, mod-lt, mul-le-mul, lt_of_mul-lt-mul_right, mul-lt-mul_of_pos_right, one-mul, le-div_iff_mul-le, mul-one, mul_right_comm, arith, lit<, lt→ltb, nltb→le, pow_pos, pow_mono}
use lib.Ieee.{Float, nan, inf, fin, binary64, up, down, of_bits, to_bits, fits, lt, to_unsigned}
use lib.Ieee.Fits.{down_pos}
use lib.Ieee.Exact.{HasValue}
use lib.Ieee.Positive.{above}
use Rattle.ieee.specs.Patterns.{lead, expo}
use Rattle.ieee.proofs.View as View

-- ---- a test's answer as a fact
pub yes : {b : Bool} → b ≡ true → T b
yes h = subst T (sym h) tt

pub no : {b : Bool} → b ≡ false → T (not b)
no h = subst (λ (a : Bool). T (not a)) (sym h) tt

abbrev pub two_to : ℕ → Float
two_to w = fin false 1 (pos w)

-- 2 ^ 64 as MIR has it, by its bit pattern
pub two_to_64_is : of_bits binary64 0x43f0_0000_0000_0000 ≡ two_to 64
unfolding of_bits
two_to_64_is = refl

-- ---- values above zero
pub over_minus_one : (x : Float) → T (above x) → T (lt (fin true 1 (pos 0)) x)
unfolding lt
over_minus_one nan a = absurd a
over_minus_one (inf true) a = absurd a
over_minus_one (inf false) a = tt
over_minus_one (fin true m e) a = absurd a
over_minus_one (fin false m e) a = lt→ltb 0 (1 * down e + m * up e * 1) (go (down e) (m * up e) (down_pos e))
  where
    go : (d n : ℕ) → 0 < d → 0 < 1 * d + n * 1
    go d n h = omega arith

-- x is a / c, and that is below 2 ^ w
under : (w : ℕ) (x : Float) (s : Bool) (a c : ℕ) → T (above x) → 0 < c → HasValue x s a c → a < 2 ^ w * c → T (lt x (two_to w))
unfolding lt
under w nan s a c p C v h = absurd p
under w (inf t) s a c p C v h = absurd v
under w (fin true m e) s a c p C v h = absurd p
under w (fin false m e) s a c p C v h =
    lt→ltb (m * up e * 1) (1 * 2 ^ w * down e)
    (plain (m * up e) (2 ^ w) (down e)
    (lt_of_mul-lt-mul_right c
    (lt_of_le_of_lt (le_of_eq v.1) (lt_of_lt_of_le (mul-lt-mul_of_pos_right h (down_pos e)) (le_of_eq (mul_right_comm (2 ^ w) c (down e)))))))
  where
    plain : (n p d : ℕ) → n < p * d → n * 1 < 1 * p * d
    plain n p d k = subst (λ (z : ℕ). n * 1 < z * d) (sym (one-mul p)) (subst (λ (z : ℕ). z < p * d) (sym (mul-one n)) k)

-- an exponent's field of 1075 at most: the value is below 2 ^ 53, and so below 2 ^ 64
pub small_exponent : (x : Float) → T (fits binary64 x) → T (above x) → to_bits binary64 x / 2 ^ 52 ≤ 1075 → T (lt x (two_to 64))
small_exponent x F p h =
    let E = View.E x F in
    let t = View.t x F in
    let q : E ≤ 1075 = field_le (to_bits binary64 x / 2 ^ 52) h in
    under 64 x (View.sign x F) (lead binary64 E t * 2 ^ expo E) (2 ^ 1074) p (pow_pos 1074) (View.value x F (lt_of_le_of_lt q (lit< tt)))
    (lt_of_le_of_lt (mul-le-mul (lead_le E t (mod-lt (to_bits binary64 x) (pow_pos 52))) (pow_mono (expo_le E q))) (mul-lt-mul_of_pos_right wide (pow_pos 1074)))
  where
    wide : 2 ^ 53 < 2 ^ 64
    wide = lit< tt

    field_le : (e : ℕ) → e ≤ 1075 → e % 2 ^ 11 ≤ 1075
    field_le e k = omega arith

    lead_le : (e t : ℕ) → t < 2 ^ 52 → lead binary64 e t ≤ 2 ^ 53
    lead_le zero t k = omega arith
    lead_le (suc e) t k = omega arith

    expo_le : (e : ℕ) → e ≤ 1075 → expo e ≤ 1074
    expo_le zero k = zero-le
    expo_le (suc e) k = omega arith

-- x is 2 ^ 64 at least
pub unsigned_top : (x : Float) → T (above x) → T (not (lt x (two_to 64))) → to_unsigned 64 x ≡ 2 ^ 64 - 1
unfolding lt to_unsigned
unsigned_top nan p h = absurd p
unsigned_top (inf true) p h = absurd p
unsigned_top (inf false) p h = refl
unsigned_top (fin true m e) p h = absurd p
unsigned_top (fin false m e) p h =
    capped (m * up e / down e)
    ((le-div_iff_mul-le (down_pos e)).1 (at_least (m * up e) (down e) (nltb→le (m * up e * 1) (1 * 2 ^ 64 * down e) h)))
  where
    at_least : (n d : ℕ) → 1 * 2 ^ 64 * d ≤ n * 1 → 2 ^ 64 * d ≤ n
    at_least n d k = omega arith

    capped : (k : ℕ) → 2 ^ 64 ≤ k → min k (2 ^ 64 - 1) ≡ 2 ^ 64 - 1
    capped k l = omega arith
