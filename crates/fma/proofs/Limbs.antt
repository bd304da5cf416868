-- Numbers of two limbs of 64 bits. Assumes nothing.
use mathlib.Core.Path.{◌≡◌, refl, sym, ap, ◌∙◌, subst}
use Prim.Native.Nat.{ℕ, zero, suc, ◌+◌, ◌-◌, ◌*◌, ◌/◌, ◌%◌, ◌^◌, ◌≤◌, ◌<◌}
use native.Mathlib.Nat.{le_trans, le_of_eq, lt_of_lt_of_le, lt_of_le_of_lt, lt_irrefl, add-zero, add_comm, mul-one, mul_assoc, mul-le-mul_right, div-add-mod'}
use native.Mathlib.Omega.{arith}
use lib.Dec.{lit≤, lit<}
use lib.Pow.{pow-add, pow_mono, shl_lt, shl_exact, shl-shr, shr-shr}
use lib.Bits.{bit_and, and_mask, mask_lt}
use lib.Count.{count_leading_zeros, leading_top}
use Rattle.std.specs.Ordering.{nat_cmp, ordering_then, MatchOrdering}
use Rattle.std.specs.Cmp.{ranks, nat_cmp_is}
use Rattle.std.specs.declared.cmp.Ordering.{Ordering}
use Rattle.std.specs.declared.cmp.Ordering.TheVariants.{Less, Equal, Greater}
use Rattle.fma.specs.Near.{Digits, Finite}

-- ---- a shift to the left
pub shl_high : (q d : ℕ) → q < 2 ^ 53 → d ≤ 74 → 63 < d → q * 2 ^ (d - 64) % 2 ^ 64 * 2 ^ 64 + 0 ≡ q * 2 ^ d
shl_high q d h k l =
    add-zero (q * 2 ^ (d - 64) % 2 ^ 64 * 2 ^ 64)
    ∙ ap (λ (z : ℕ). z * 2 ^ 64) (shl_exact 53 (d - 64) 64 h (room d k))
    ∙ mul_assoc q (2 ^ (d - 64)) (2 ^ 64)
    ∙ ap (λ (z : ℕ). q * z) (sym (pow-add 2 (d - 64) 64) ∙ ap (λ (z : ℕ). 2 ^ z) (back d l))
  where
    room : (d : ℕ) → d ≤ 74 → 53 + (d - 64) ≤ 64
    room d x = omega arith

    back : (d : ℕ) → 63 < d → d - 64 + 64 ≡ d
    back d x = omega arith

pub shl_mid : (q d : ℕ) → d ≤ 63 → q / 2 ^ (64 - d) * 2 ^ 64 + q * 2 ^ d % 2 ^ 64 ≡ q * 2 ^ d
shl_mid q d k =
    ap (λ (z : ℕ). z * 2 ^ 64 + q * 2 ^ d % 2 ^ 64) (sym (ap (λ (z : ℕ). q * 2 ^ d / 2 ^ z) (sym (join d k)) ∙ sym (shr-shr (q * 2 ^ d) d (64 - d)) ∙ ap (λ (z : ℕ). z / 2 ^ (64 - d)) (shl-shr q d)))
    ∙ div-add-mod' (q * 2 ^ d) (2 ^ 64)
  where
    join : (d : ℕ) → d ≤ 63 → d + (64 - d) ≡ 64
    join d x = omega arith

-- ---- the order: the upper limbs', then the lower
pub limbs_cmp : (ah al bh bl : ℕ) → al < 2 ^ 64 → bl < 2 ^ 64 → ordering_then (nat_cmp ah bh) (nat_cmp al bl) ≡ nat_cmp (ah * 2 ^ 64 + al) (bh * 2 ^ 64 + bl)
limbs_cmp ah al bh bl A B = nat_cmp_is (ah * 2 ^ 64 + al) (bh * 2 ^ 64 + bl) _ (go (nat_cmp ah bh) (nat_cmp al bl) (ranks ah bh) (ranks al bl))
  where
    go : (o q : Ordering) → MatchOrdering o (ah < bh) (ah ≡ bh) (bh < ah) → MatchOrdering q (al < bl) (al ≡ bl) (bl < al)
        → MatchOrdering (ordering_then o q) (ah * 2 ^ 64 + al < bh * 2 ^ 64 + bl) (ah * 2 ^ 64 + al ≡ bh * 2 ^ 64 + bl) (bh * 2 ^ 64 + bl < ah * 2 ^ 64 + al)
    go Less q h k = omega arith
    go Greater q h k = omega arith
    go Equal Less h k = omega arith
    go Equal Equal h k = omega arith
    go Equal Greater h k = omega arith

-- ---- `Term::of_pattern`: the fields of a finite value's pattern, with their masks
pub asked : (b : ℕ) → Finite b → (bit_and (b / 2 ^ 52) (2 ^ 11 - 1) < 2047) × (bit_and b (2 ^ 52 - 1) < 2 ^ 52)
asked b u = (subst (λ (z : ℕ). z < 2047) (sym (and_mask (b / 2 ^ 52) 11)) u.below, mask_lt b 52)

-- the digits q and the exponent x of a term
pub record Held (e t q x : ℕ) : Type 0 where
  pub value : Digits e t q (x - 1127)
  pub least : 1127 ≤ x

pub masked : (b q x : ℕ) → Held (bit_and (b / 2 ^ 52) (2 ^ 11 - 1)) (bit_and b (2 ^ 52 - 1)) q x → Held (b / 2 ^ 52 % 2 ^ 11) (b % 2 ^ 52) q x
masked b q x h = rw (← (and_mask (b / 2 ^ 52) 11), ← (and_mask b 52)) h

pub held_most : (e t q x : ℕ) → Held e t q x → x ≤ 3224
held_most e t q x h = go x h.value.most h.least
  where
    go : (x : ℕ) → x - 1127 ≤ 2097 → 1127 ≤ x → x ≤ 3224
    go x a b = omega arith

no_zero : {n : ℕ} → n < 0 → ⊥
no_zero h = omega arith

pub digits_normal : (e t : ℕ) → e < 2047 → t < 2 ^ 52 → 0 < e → Digits e t (t + 2 ^ 52) (e + 51)
digits_normal zero t a b h = absurd (lt_irrefl 0 h)
digits_normal (suc j) t a b h = record {
  lo = λ p. native.Mathlib.Nat.le-add_left (2 ^ 52) t;
  hi = top t b;
  most = most j a;
  value = ap (λ (z : ℕ). (t + 2 ^ 52) * 2 ^ z) (shift j) ∙ ap (λ (z : ℕ). (t + 2 ^ 52) * z) (pow-add 2 j 52) ∙ sym (mul_assoc (t + 2 ^ 52) (2 ^ j) (2 ^ 52)) ∙ ap (λ (z : ℕ). z * 2 ^ j * 2 ^ 52) (add_comm t (2 ^ 52));
}
  where
    top : (t : ℕ) → t < 2 ^ 52 → t + 2 ^ 52 < 2 ^ 53
    top t x = omega arith

    most : (j : ℕ) → suc j < 2047 → suc j + 51 ≤ 2097
    most j x = omega arith

    shift : (j : ℕ) → suc j + 51 ≡ j + 52
    shift j = omega arith

pub digits_none : (e t : ℕ) → e ≤ 0 → t ≤ 0 → Digits e t 0 0
digits_none zero zero h k = record { lo = λ p. absurd (no_zero p); hi = lit< tt; most = lit≤ tt; value = refl }
digits_none (suc e) t h k = absurd (no_zero h)
digits_none zero (suc t) h k = absurd (no_zero k)

-- a t above 0 with no leading digit: its highest is the j-th
module _ (t : ℕ) (b : t < 2 ^ 52) (p : 0 < t) where
  z : (j : ℕ) × (count_leading_zeros 64 t + suc j ≡ 64) × (2 ^ j ≤ t) × (t < 2 ^ suc j)
  z = leading_top 64 t p (lt_of_lt_of_le b (lit≤ tt))

  j_lt : z.0 < 52
  j_lt = pow_lt_back z.0 52 (lt_of_le_of_lt z.2 b)
    where
      pow_lt_back : (i p : ℕ) → 2 ^ i < 2 ^ p → i < p
      pow_lt_back i p h = native.Mathlib.Nat.lt_of_not-le (λ (g : p ≤ i). lt_irrefl (2 ^ i) (lt_of_lt_of_le h (pow_mono g)))

  pub zeros_ge : 11 ≤ count_leading_zeros 64 t
  zeros_ge = go (count_leading_zeros 64 t) z.0 z.1 j_lt
    where
      go : (l j : ℕ) → l + suc j ≡ 64 → j < 52 → 11 ≤ l
      go l j x y = omega arith

  n_is : count_leading_zeros 64 t - 11 ≡ 52 - z.0
  n_is = go (count_leading_zeros 64 t) z.0 z.1 j_lt
    where
      go : (l j : ℕ) → l + suc j ≡ 64 → j < 52 → l - 11 ≡ 52 - j
      go l j x y = omega arith

  pub zeros_le : count_leading_zeros 64 t - 11 ≤ 52
  zeros_le = subst (λ (k : ℕ). k ≤ 52) (sym n_is) (go z.0)
    where
      go : (j : ℕ) → 52 - j ≤ 52
      go j = omega arith

  shifted_hi : t * 2 ^ (52 - z.0) < 2 ^ 53
  shifted_hi = lt_of_lt_of_le (shl_lt (suc z.0) (52 - z.0) z.3) (pow_mono (go z.0 j_lt))
    where
      go : (j : ℕ) → j < 52 → suc j + (52 - j) ≤ 53
      go j x = omega arith

  shifted_lo : 2 ^ 52 ≤ t * 2 ^ (52 - z.0)
  shifted_lo = le_trans (le_of_eq (ap (λ (k : ℕ). 2 ^ k) (sym (go z.0 j_lt)) ∙ pow-add 2 z.0 (52 - z.0))) (mul-le-mul_right (2 ^ (52 - z.0)) z.2)
    where
      go : (j : ℕ) → j < 52 → j + (52 - j) ≡ 52
      go j x = omega arith

  pub digits_subnormal : (e : ℕ) → e ≤ 0 → Digits e t (t * 2 ^ (count_leading_zeros 64 t - 11) % 2 ^ 64) (52 - (count_leading_zeros 64 t - 11))
  digits_subnormal (suc e) h = absurd (no_zero h)
  digits_subnormal zero h =
      subst (λ (k : ℕ). Digits 0 t (t * 2 ^ k % 2 ^ 64) (52 - k)) (sym n_is)
      (subst (λ (q : ℕ). Digits 0 t q (52 - (52 - z.0))) (sym (native.Mathlib.Nat.mod-eq_of_lt (lt_of_lt_of_le shifted_hi (lit≤ tt))))
      (record {
        lo = λ q. shifted_lo;
        hi = shifted_hi;
        most = most z.0;
        value = mul_assoc t (2 ^ (52 - z.0)) (2 ^ (52 - (52 - z.0))) ∙ ap (λ (k : ℕ). t * k) (sym (pow-add 2 (52 - z.0) (52 - (52 - z.0))) ∙ ap (λ (k : ℕ). 2 ^ k) (all z.0 j_lt)) ∙ ap (λ (k : ℕ). k * 2 ^ 52) (sym (mul-one t));
      }))
    where
      most : (j : ℕ) → 52 - (52 - j) ≤ 2097
      most j = omega arith

      all : (j : ℕ) → j < 52 → 52 - j + (52 - (52 - j)) ≡ 52
      all j x = omega arith

-- the three cases
pub held_normal : (e t : ℕ) → e < 2047 → t < 2 ^ 52 → 0 < e → Held e t (t + 2 ^ 52) (e + 1178)
held_normal e t a b p = record { value = subst (λ (k : ℕ). Digits e t (t + 2 ^ 52) k) (at e) (digits_normal e t a b p); least = omega arith }
  where
    at : (e : ℕ) → e + 51 ≡ e + 1178 - 1127
    at e = omega arith

pub held_subnormal : (e t n : ℕ) → t < 2 ^ 52 → e ≤ 0 → 0 < t → n ≡ count_leading_zeros 64 t → Held e t (t * 2 ^ (n - 11) % 2 ^ 64) (1179 - (n - 11))
held_subnormal e t n b h p z =
    subst (λ (m : ℕ). Held e t (t * 2 ^ (m - 11) % 2 ^ 64) (1179 - (m - 11))) (sym z)
    (record { value = subst (λ (k : ℕ). Digits e t (t * 2 ^ (count_leading_zeros 64 t - 11) % 2 ^ 64) k) (at (count_leading_zeros 64 t - 11)) (digits_subnormal t b p e h); least = least (count_leading_zeros 64 t - 11) (zeros_le t b p) })
  where
    at : (n : ℕ) → 52 - n ≡ 1179 - n - 1127
    at n = omega arith

    least : (n : ℕ) → n ≤ 52 → 1127 ≤ 1179 - n
    least n x = omega arith

pub held_none : (e t : ℕ) → e ≤ 0 → t ≤ 0 → Held e t 0 1127
held_none e t h k = record { value = digits_none e t h k; least = lit≤ tt }
