-- The whole part of a value below 2 ^ 32 as `to_u64` shifts it out: the front 32 digits, to the left by the exponent and then to the right. Assumes nothing.
use Rattle.std.proofs.Common.{◌≡◌, ℕ, ◌+◌, ◌-◌, ◌*◌, ◌/◌, ◌%◌, ◌^◌, ◌<◌, ◌≤◌, min, true, false, T, sym, ap, ◌∙◌, lt_of_lt_of_le, lt_of_not-le, le-div_iff_mul-le, arith, lit<, lit≤, pow_mono, shl_exact, shr-shr, shr_lt}
use native.Mathlib.Nat.{div-eq_of_lt}
use lib.Pow.{shl-shr}
use lib.Bits.{bit_and, bit_or, or_lt, mask_lt}
use lib.Ieee.{Float, nan, inf, fin, binary64, up, down, fits, le, lt, to_bits, to_unsigned}
use lib.Ieee.Fits.{down_pos}
use lib.Ieee.Positive.{above_of_le}
use Rattle.std.proofs.num.Truncating.{one, cut_down}
use Rattle.ieee.proofs.Order.{two_to}
use Rattle.ieee.proofs.Unsigned.{le→cross}

-- ---- the whole part of a value from 1 on is 1 at least

some : (n d c : ℕ) → 0 < d → 1 * d ≤ n * 1 → 1 ≤ c → 1 ≤ min (n / d) c
some n d c D h C = both (n / d) c ((le-div_iff_mul-le D).1 (plain n d h)) C
  where
    plain : (n d : ℕ) → 1 * d ≤ n * 1 → 1 * d ≤ n
    plain n d h = omega arith

    both : (a c : ℕ) → 1 ≤ a → 1 ≤ c → 1 ≤ min a c
    both a c h k = omega arith

one_cut : (x : Float) → T (le one x) → 1 ≤ to_unsigned 64 x
unfolding to_unsigned
one_cut nan t = absurd (above_of_le one nan tt t)
one_cut (inf true) t = absurd (above_of_le one (inf true) tt t)
one_cut (inf false) t = lit≤ tt
one_cut (fin true m e) t = absurd (above_of_le one (fin true m e) tt t)
one_cut (fin false m e) t = some (m * up e) (down e) (2 ^ 64 - 1) (down_pos e) (le→cross one (fin false m e) tt tt t) (lit≤ tt)

-- ---- the digits

-- b's digits under a leading one
abbrev pub digits : ℕ → ℕ
digits b = bit_or (bit_and b (2 ^ 52 - 1)) (2 ^ 52)

digits_lt : (b : ℕ) → digits b < 2 ^ 53
digits_lt b = or_lt 53 (bit_and b (2 ^ 52 - 1)) (2 ^ 52) (lt_of_lt_of_le (mask_lt b 52) (lit≤ tt)) (lit< tt)

-- (q / 2^21 * 2^k) / 2^31 is q / 2^(52 - k)
pub to_the_left : (q k : ℕ) → q < 2 ^ 53 → k ≤ 31 → q / 2 ^ 21 * 2 ^ k % 2 ^ 64 / 2 ^ 31 ≡ q / 2 ^ (52 - k)
to_the_left q k h g =
    let a = q / 2 ^ 21 in
    ap (λ (z : ℕ). z / 2 ^ 31) (shl_exact 32 k 64 (shr_lt 32 21 h) (room k g))
    ∙ ap (λ (z : ℕ). a * 2 ^ k / 2 ^ z) (parts k g)
    ∙ sym (shr-shr (a * 2 ^ k) k (31 - k))
    ∙ ap (λ (z : ℕ). z / 2 ^ (31 - k)) (shl-shr a k)
    ∙ shr-shr q 21 (31 - k)
    ∙ ap (λ (z : ℕ). q / 2 ^ z) (whole k g)
  where
    room : (k : ℕ) → k ≤ 31 → 32 + k ≤ 64
    room k g = omega arith

    parts : (k : ℕ) → k ≤ 31 → 31 ≡ k + (31 - k)
    parts k g = omega arith

    whole : (k : ℕ) → k ≤ 31 → 21 + (31 - k) ≡ 52 - k
    whole k g = omega arith

module _ (x : Float) (F : T (fits binary64 x)) (a : T (le one x)) (c : T (lt x (two_to 64))) where
  abbrev e : ℕ
  e = to_bits binary64 x / 2 ^ 52

  -- an exponent's field below 1023 would leave no digit
  pub from_1023 : e ≤ 1075 → 1023 ≤ e
  from_1023 h = next e (lt_of_not-le (λ (l : e ≤ 1022). never (to_unsigned 64 x) (one_cut x a) (none l)))
    where
      far : (e : ℕ) → e ≤ 1022 → 53 ≤ 1075 - e
      far e l = omega arith

      none : e ≤ 1022 → to_unsigned 64 x ≡ 0
      none l = sym (cut_down x F a c h) ∙ div-eq_of_lt (lt_of_lt_of_le (digits_lt (to_bits binary64 x)) (pow_mono (far e l)))

      never : (n : ℕ) → 1 ≤ n → n ≡ 0 → ⊥
      never n p q = omega arith

      next : (e : ℕ) → 1022 < e → 1023 ≤ e
      next e l = omega arith

  pub cut_left : e ≤ 1054 → digits (to_bits binary64 x) / 2 ^ 21 * 2 ^ (e - 1023) % 2 ^ 64 / 2 ^ 31 ≡ to_unsigned 64 x
  cut_left h =
      let g : e ≤ 1075 = more e h in
      to_the_left (digits (to_bits binary64 x)) (e - 1023) (digits_lt (to_bits binary64 x)) (few e h)
      ∙ ap (λ (z : ℕ). digits (to_bits binary64 x) / 2 ^ z) (same e (from_1023 g) h)
      ∙ cut_down x F a c g
    where
      more : (e : ℕ) → e ≤ 1054 → e ≤ 1075
      more e h = omega arith

      few : (e : ℕ) → e ≤ 1054 → e - 1023 ≤ 31
      few e h = omega arith

      same : (e : ℕ) → 1023 ≤ e → e ≤ 1054 → 52 - (e - 1023) ≡ 1075 - e
      same e l h = omega arith
