-- An `f64` that is no NaN, by the fields of its bit pattern b: the sign, the exponent's field b / 2 ^ 52 % 2 ^ 11, and the digits b % 2 ^ 52. Assumes nothing.
use Rattle.std.proofs.Common.{◌≡◌, ℕ, ◌*◌, ◌/◌, ◌%◌, ◌^◌, ◌<◌, ◌≤◌, Bool, true, false, cond, not, T, eqb, leb, sym, refl, ap, ◌∙◌, subst, arith, leb→le}
use lib.Dec.{nleb→lt}
use lib.Pow.{field}
use lib.Ieee.{Float, nan, inf, binary64, fits, is_nan, of_fields, to_bits}
use lib.Ieee.Bits.{of_bits-to_bits, to_bits-lt}
use lib.Ieee.Exact.{HasValue}
use Rattle.ieee.specs.Patterns.{lead, expo}
use Rattle.ieee.proofs.Pack.{of_bits_is, fields_val, fields_top}

-- the sign as a number
pub sign_is : (b j : ℕ) → b < 2 ^ 64 → b / 2 ^ 63 * j ≡ cond (leb (2 ^ 63) b) j 0
sign_is b j h = go (leb (2 ^ 63) b) (leb→le (2 ^ 63) b) (nleb→lt (2 ^ 63) b)
  where
    at_one : 2 ^ 63 ≤ b → b / 2 ^ 63 ≡ 1
    at_one k = omega arith

    at_none : b < 2 ^ 63 → b / 2 ^ 63 ≡ 0
    at_none k = omega arith

    go : (t : Bool) → (T t → 2 ^ 63 ≤ b) → (T (not t) → b < 2 ^ 63) → b / 2 ^ 63 * j ≡ cond t j 0
    go true k l = ap (λ (z : ℕ). z * j) (at_one (k tt)) ∙ native.Mathlib.Nat.one-mul j
    go false k l = ap (λ (z : ℕ). z * j) (at_none (l tt)) ∙ native.Mathlib.Nat.zero-mul j

module _ (x : Float) (F : T (fits binary64 x)) where
  abbrev pub b : ℕ
  b = to_bits binary64 x

  abbrev pub sign : Bool
  sign = leb (2 ^ 63) b

  abbrev pub E : ℕ
  E = b / 2 ^ 52 % 2 ^ 11

  abbrev pub t : ℕ
  t = b % 2 ^ 52

  pub b_lt : b < 2 ^ 64
  b_lt = to_bits-lt binary64 x F

  pub is : of_fields binary64 sign E t ≡ x
  is = ap (λ (z : ℕ). of_fields binary64 sign z t) (sym (field b 11 52)) ∙ sym (of_bits_is binary64 b) ∙ of_bits-to_bits binary64 x F

  -- finite
  pub value : E < 2047 → HasValue x sign (lead binary64 E t * 2 ^ expo E) (2 ^ 1074)
  value h = subst (λ (v : Float). HasValue v sign (lead binary64 E t * 2 ^ expo E) (2 ^ 1074)) is (fields_val binary64 sign E t h)

  -- an infinity
  pub infinite : T (not (is_nan x)) → E ≡ 2047 → x ≡ inf sign
  infinite n h = sym is ∙ fields_top binary64 sign E t h ∙ go (eqb t 0) (subst (λ (v : Float). T (not (is_nan v))) (sym is ∙ fields_top binary64 sign E t h) n)
    where
      go : (z : Bool) → T (not (is_nan (cond z (inf sign) nan))) → cond z (inf sign) nan ≡ inf sign
      go true k = refl
      go false k = absurd (unfold is_nan in k)
