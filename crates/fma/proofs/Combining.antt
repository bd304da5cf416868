-- What the proof of `unrounded` cites. Assumes nothing.
use mathlib.Core.Path.{◌≡◌, refl, sym, ap, ◌∙◌, subst}
use mathlib.Core.Logic.{◌⊎◌, inl, inr}
use mathlib.Core.Bool.{Bool}
use Prim.Native.Nat.{ℕ, ◌+◌, ◌-◌, ◌*◌, ◌/◌, ◌%◌, ◌^◌, ◌≤◌, ◌<◌, zero-le}
use native.Mathlib.Nat.{le_trans, le_of_lt, lt_of_lt_of_le, lt_of_le_of_lt, eq-zero-or-pos, zero-mul, mul_comm, mul_assoc, mul-le-mul, mul-le-mul_right, mul-lt-mul_of_pos_left, lt_of_mul-lt-mul_right, le-add_right}
use native.Mathlib.Omega.{arith}
use lib.Dec.{lit≤}
use lib.Pow.{pow-add, pow_mono, shl_lt}
use lib.Ieee.{Float}
use Rattle.fma.specs.Near.{Near, exact, Factors, Jammed, Settled, Summed}
use Rattle.fma.proofs.Sums.{near_scale}
use Rattle.fma.proofs.Closing.{sum_64}

mul_lt : (x y a b : ℕ) → x < a → y < b → x * y < a * b
mul_lt x y a b h k = lt_of_le_of_lt (mul-le-mul_right y (le_of_lt h)) (mul-lt-mul_of_pos_left k (lt_of_le_of_lt zero-le h))

-- the factors' digits, the first times 2
pub factors : (q r : ℕ) → (0 < q → 2 ^ 52 ≤ q) → q < 2 ^ 53 → (0 < r → 2 ^ 52 ≤ r) → r < 2 ^ 53 → Factors (q * 2) r
factors q r l h m k = record {
  even = even q;
  a_lo = λ p. twice q (l (first q p));
  a_hi = top q h;
  b_lo = m;
  b_hi = k;
}
  where
    even : (q : ℕ) → q * 2 % 2 ≡ 0
    even q = omega arith

    first : (q : ℕ) → 0 < q * 2 → 0 < q
    first q h = omega arith

    twice : (q : ℕ) → 2 ^ 52 ≤ q → 2 ^ 53 ≤ q * 2
    twice q k = omega arith

    top : (q : ℕ) → q < 2 ^ 53 → q * 2 < 2 ^ 54
    top q h = omega arith

pub product_is : (q r p : ℕ) → q < 2 ^ 53 → p ≡ q * 2 % 2 ^ 64 * r → p ≡ q * 2 * r
product_is q r p h e = e ∙ ap (λ (z : ℕ). z * r) (small q h)
  where
    small : (q : ℕ) → q < 2 ^ 53 → q * 2 % 2 ^ 64 ≡ q * 2
    small q x = omega arith

module _ (a b hi lo : ℕ) (F : Factors a b) (e : hi * 2 ^ 64 + lo ≡ a * b) where
  pub hi_lt : hi < 2 ^ 43
  hi_lt = lt_of_mul-lt-mul_right (2 ^ 64) (lt_of_le_of_lt (subst (λ (z : ℕ). hi * 2 ^ 64 ≤ z) e (le-add_right (hi * 2 ^ 64) lo)) (lt_of_lt_of_le (mul_lt a b (2 ^ 54) (2 ^ 53) F.a_hi F.b_hi) (lit≤ tt)))

  none_left : a ≡ 0 → a * b ≡ 0
  none_left z = ap (λ (y : ℕ). y * b) z ∙ zero-mul b

  none_right : b ≡ 0 → a * b ≡ 0
  none_right z = ap (λ (y : ℕ). a * y) z ∙ mul_comm a 0 ∙ zero-mul a

  -- the product is 0, or it has 106 digits at least
  p_size : (a * b ≡ 0) ⊎ (2 ^ 105 ≤ hi * 2 ^ 64 + lo)
  p_size = elim (eq-zero-or-pos a) [
    | inl z ↦ inl (none_left z)
    | inr p ↦ elim (eq-zero-or-pos b) [ inl z ↦ inl (none_right z) | inr q ↦ inr (subst (λ (z : ℕ). 2 ^ 105 ≤ z) (sym e) (mul-le-mul (F.a_lo p) (F.b_lo q))) ]
  ]

  p_lo : (hi ≡ 0 → ⊥) → 2 ^ 105 ≤ hi * 2 ^ 64 + lo
  p_lo n = elim p_size [ inl z ↦ absurd (n (high hi lo (e ∙ z))) | inr p ↦ p ]
    where
      high : (h l : ℕ) → h * 2 ^ 64 + l ≡ 0 → h ≡ 0
      high h l x = omega arith

  p_none : hi ≡ 0 → lo < 2 ^ 64 → a * b ≡ 0
  p_none z l = elim p_size [ inl p ↦ p | inr p ↦ absurd (low hi lo z l p) ]
    where
      low : (h l : ℕ) → h ≡ 0 → l < 2 ^ 64 → 2 ^ 105 ≤ h * 2 ^ 64 + l → ⊥
      low h l x y p = omega arith

  p_even : (hi * 2 ^ 64 + lo) % 2 ≡ 0
  p_even = ap (λ (z : ℕ). z % 2) (e ∙ ap (λ (z : ℕ). z * b) (half a F.even) ∙ mul_assoc 2 (a / 2) b) ∙ twice (a / 2 * b)
    where
      half : (a : ℕ) → a % 2 ≡ 0 → a ≡ 2 * (a / 2)
      half a x = omega arith

      twice : (z : ℕ) → (2 * z) % 2 ≡ 0
      twice z = omega arith

  pub sum_far : (s : Bool) (k : ℕ) (t : Bool) (q d : ℕ) (r : Float) → Summed s (hi * 2 ^ 64 + lo) k t q d r → Summed s (a * b) k t q d r
  sum_far s k t q d r x = subst (λ (z : ℕ). Summed s z k t q d r) e x

  P_is : (k : ℕ) → (hi * 2 ^ 64 + lo) * 2 ^ (k + 64) ≡ a * b * 2 ^ k * 2 ^ 64
  P_is k = ap (λ (z : ℕ). z * 2 ^ (k + 64)) e ∙ ap (λ (z : ℕ). a * b * z) (pow-add 2 k 64) ∙ sym (mul_assoc (a * b) (2 ^ k) (2 ^ 64))

  -- the product is 0
  pub sum_second : (s : Bool) (k : ℕ) (t : Bool) (q d : ℕ) (r : Float) → hi ≡ 0 → lo < 2 ^ 64 → Settled s (hi * 2 ^ 64 + lo) d t (0 * 2 ^ 64 + q) r → Summed s (a * b) k t q d r
  sum_second s k t q d r z l x =
      let n : a * b ≡ 0 = p_none z l in
      record {
        is = x.is ((0 * 2 ^ 64 + q) * 2 ^ (d + 64)) (exact refl) (inl refl)
            ∙ sum_64 s t ((hi * 2 ^ 64 + lo) * 2 ^ (d + 64)) ((0 * 2 ^ 64 + q) * 2 ^ (d + 64)) (a * b * 2 ^ k) (q * 2 ^ d)
            (ap (λ (y : ℕ). y * 2 ^ (d + 64)) (e ∙ n) ∙ zero-mul (2 ^ (d + 64)) ∙ sym (zero-mul (2 ^ 64)) ∙ ap (λ (y : ℕ). y * 2 ^ 64) (sym (zero-mul (2 ^ k)) ∙ ap (λ (y : ℕ). y * 2 ^ k) (sym n)))
            (ap (λ (y : ℕ). y * 2 ^ (d + 64)) (tidy q) ∙ ap (λ (y : ℕ). q * y) (pow-add 2 d 64) ∙ sym (mul_assoc q (2 ^ d) (2 ^ 64)));
      }
    where
      tidy : (q : ℕ) → 0 * 2 ^ 64 + q ≡ q
      tidy q = omega arith

  -- the second value is
  pub sum_first : (s : Bool) (k : ℕ) (t : Bool) (q d : ℕ) (r : Float) → q ≡ 0 → Settled s (hi * 2 ^ 64 + lo) k t (0 * 2 ^ 64 + q) r → Summed s (a * b) k t q d r
  sum_first s k t q d r z x =
      let none : (0 * 2 ^ 64 + q) * 2 ^ (k + 64) ≡ 0 = ap (λ (y : ℕ). (0 * 2 ^ 64 + y) * 2 ^ (k + 64)) z ∙ zero-mul (2 ^ (k + 64)) in
      record {
        is = x.is ((0 * 2 ^ 64 + q) * 2 ^ (k + 64)) (exact refl) (inl refl)
            ∙ sum_64 s t ((hi * 2 ^ 64 + lo) * 2 ^ (k + 64)) ((0 * 2 ^ 64 + q) * 2 ^ (k + 64)) (a * b * 2 ^ k) (q * 2 ^ d) (P_is k)
            (none ∙ sym (zero-mul (2 ^ 64)) ∙ ap (λ (y : ℕ). y * 2 ^ 64) (sym (zero-mul (2 ^ d)) ∙ ap (λ (y : ℕ). y * 2 ^ d) (sym z)));
      }

  -- the second value is not below the first in scale
  pub sum_above : (s : Bool) (k : ℕ) (t : Bool) (q d zh zl : ℕ) (r : Float) → k ≤ d → zh * 2 ^ 64 + zl ≡ q * 2 ^ (d - k) → Settled s (hi * 2 ^ 64 + lo) k t (zh * 2 ^ 64 + zl) r → Summed s (a * b) k t q d r
  sum_above s k t q d zh zl r h z x = record {
    is = x.is ((zh * 2 ^ 64 + zl) * 2 ^ (k + 64)) (exact refl) (inl refl)
        ∙ sum_64 s t ((hi * 2 ^ 64 + lo) * 2 ^ (k + 64)) ((zh * 2 ^ 64 + zl) * 2 ^ (k + 64)) (a * b * 2 ^ k) (q * 2 ^ d) (P_is k)
        (ap (λ (y : ℕ). y * 2 ^ (k + 64)) z ∙ mul_assoc q (2 ^ (d - k)) (2 ^ (k + 64)) ∙ ap (λ (y : ℕ). q * y) (sym (pow-add 2 (d - k) (k + 64)) ∙ ap (λ (y : ℕ). 2 ^ y) (go d k h) ∙ pow-add 2 d 64) ∙ sym (mul_assoc q (2 ^ d) (2 ^ 64)));
  }
    where
      go : (d k : ℕ) → k ≤ d → d - k + (k + 64) ≡ d + 64
      go d k x = omega arith

  -- it is
  pub sum_below : (s : Bool) (k : ℕ) (t : Bool) (q d u : ℕ) (r : Float) → (hi ≡ 0 → ⊥) → d < k → q < 2 ^ 53 → Jammed q (k - d) u → Settled s (hi * 2 ^ 64 + lo) k t (0 * 2 ^ 64 + u) r → Summed s (a * b) k t q d r
  sum_below s k t q d u r m h l j x = record {
    is = x.is (q * 2 ^ (d + 64)) (subst (λ (y : ℕ). Near (q * 2 ^ (d + 64)) (k + 64) y) (tidy u) (subst (λ (y : ℕ). Near (q * 2 ^ (d + 64)) y u) (go d k h) (near_scale q (k - d) u (d + 64) j.near))) (inr (p_even, le_trans (most q u l j.small) (le_trans (lit≤ tt) (p_lo m))))
        ∙ sum_64 s t ((hi * 2 ^ 64 + lo) * 2 ^ (k + 64)) (q * 2 ^ (d + 64)) (a * b * 2 ^ k) (q * 2 ^ d) (P_is k) (ap (λ (y : ℕ). q * y) (pow-add 2 d 64) ∙ sym (mul_assoc q (2 ^ d) (2 ^ 64)));
  }
    where
      go : (d k : ℕ) → d < k → k - d + (d + 64) ≡ k + 64
      go d k x = omega arith

      tidy : (u : ℕ) → u ≡ 0 * 2 ^ 64 + u
      tidy u = omega arith

      most : (q u : ℕ) → q < 2 ^ 53 → u ≤ q + 1 → 2 ^ 62 + (0 * 2 ^ 64 + u) ≤ 2 ^ 63
      most q u x y = omega arith

pub zh_lt : (q n zh zl : ℕ) → q < 2 ^ 53 → n ≤ 74 → zh * 2 ^ 64 + zl ≡ q * 2 ^ n → zh < 2 ^ 63
zh_lt q n zh zl h k e = lt_of_mul-lt-mul_right (2 ^ 64) (lt_of_le_of_lt (subst (λ (z : ℕ). zh * 2 ^ 64 ≤ z) e (le-add_right (zh * 2 ^ 64) zl)) (lt_of_lt_of_le (shl_lt 53 n h) (le_trans (pow_mono (go n k)) (lit≤ tt))))
  where
    go : (n : ℕ) → n ≤ 74 → 53 + n ≤ 127
    go n x = omega arith
