-- What the proof of `WideTerm::rounded` cites. Assumes nothing.
use mathlib.Core.Path.{◌≡◌, refl, sym, ap, ◌∙◌, subst}
use mathlib.Core.Logic.{◌⊎◌, inl, inr}
use mathlib.Core.Bool.{Bool, true, false, not, cond}
use Prim.Native.Nat.{ℕ, suc, ◌+◌, ◌-◌, ◌*◌, ◌%◌, ◌^◌, ◌≤◌, ◌<◌}
use native.Mathlib.Nat.{lt_of_lt_of_le, lt_of_le_of_lt, lt_of_not-le, lt_irrefl, add-zero, add-mul, zero-mul, mul_assoc, mul_comm, le-add_right, eq_of_mul-eq-mul_right, lt_of_mul-lt-mul_right, le_of_mul-le-mul_right, add-sub_of_le}
use native.Mathlib.Omega.{arith}
use lib.IntN.{pos}
use mir.Val.{bool_byte}
use lib.Dec.{T}
use lib.Pow.{pow-add, pow_pos, pow_mono}
use lib.Count.{count_leading_zeros, leading_top}
use lib.Ieee.{fin, binary64, round, is_nan, nan_bits, of_bits}
use lib.Ieee.Bits.{nan_bits_is}
use Rattle.ieee.proofs.Pack.{round_no_nan, too_small}
use Rattle.fma.specs.Near.{Near, exact, inside, Strong, Top, Finished, Placed}
use Rattle.fma.proofs.Cutting.{near_trans, c_le}
use Rattle.fma.proofs.Ends.{zero_bits}

pub sign_bits : (s : Bool) → bool_byte s * 2 ^ 63 % 2 ^ 64 ≡ cond s (2 ^ 63) 0
sign_bits true = refl
sign_bits false = refl

pub pattern_no_nan : (s : Bool) (v i r : ℕ) → Finished v i r → T (not (nan_bits binary64 (bool_byte s * 2 ^ 63 % 2 ^ 64 + r)))
pattern_no_nan s v i r f =
    subst (λ (b : Bool). T (not b))
    (sym (nan_bits_is binary64 (bool_byte s * 2 ^ 63 % 2 ^ 64 + r) ∙ ap is_nan (ap (λ (z : ℕ). of_bits binary64 (z + r)) (sign_bits s) ∙ f.value s (v * 2 ^ i) (exact refl))))
    (round_no_nan binary64 s (v * 2 ^ i) (2 ^ 2317))

-- a sign alone is a zero's pattern
sign_only : (s : Bool) → of_bits binary64 (bool_byte s * 2 ^ 63 % 2 ^ 64) ≡ fin s 0 (pos 0)
sign_only s = ap (λ (z : ℕ). of_bits binary64 z) (sign_bits s ∙ sym (add-zero (cond s (2 ^ 63) 0))) ∙ zero_bits s

pub sign_no_nan : (s : Bool) → T (not (nan_bits binary64 (bool_byte s * 2 ^ 63 % 2 ^ 64)))
sign_no_nan s = subst (λ (b : Bool). T (not b)) (sym (nan_bits_is binary64 (bool_byte s * 2 ^ 63 % 2 ^ 64) ∙ ap is_nan (sign_only s))) (unfold is_nan in tt)

-- ---- the same with 2 ^ 64 taken out of both sides
unscale : (w n v u : ℕ) → u ≡ w * 2 ^ 64 → Near u (64 + n) v → Near w n v
unscale w n v u x (exact e) =
    exact (eq_of_mul-eq-mul_right (2 ^ 64) (pow_pos 64) (v * 2 ^ n) w (mul_assoc v (2 ^ n) (2 ^ 64) ∙ ap (λ (z : ℕ). v * z) (mul_comm (2 ^ n) (2 ^ 64) ∙ sym (pow-add 2 64 n)) ∙ e ∙ x))
unscale w n v u x (inside h r y e p l) =
    let K = 2 ^ 64 in
    let N = 2 ^ suc n in
    let unit : 2 ^ suc (64 + n) ≡ N * K = ap (λ (z : ℕ). 2 ^ z) (swap n) ∙ pow-add 2 (suc n) 64 in
    let f : w * K ≡ h * N * K + r = sym x ∙ e ∙ ap (λ (z : ℕ). z + r) (ap (λ (z : ℕ). h * z) unit ∙ sym (mul_assoc h N K)) in
    let le : h * N ≤ w = le_of_mul-le-mul_right (subst (λ (z : ℕ). h * N * K ≤ z) (sym f) (le-add_right (h * N * K) r)) (pow_pos 64) in
    let d = w - h * N in
    let g : h * N * K + d * K ≡ h * N * K + r = sym (add-mul (h * N) d K) ∙ ap (λ (z : ℕ). z * K) (add-sub_of_le le) ∙ f in
    let rd : d * K ≡ r = cancel (h * N * K) (d * K) r g in
    inside h d y (sym (add-sub_of_le le)) (first d (subst (λ (z : ℕ). 0 < z) (sym rd) p)) (lt_of_mul-lt-mul_right K (subst (λ (z : ℕ). z < N * K) (sym rd) (subst (λ (z : ℕ). r < z) unit l)))
  where
    swap : (n : ℕ) → suc (64 + n) ≡ suc n + 64
    swap n = omega arith

    cancel : (a b c : ℕ) → a + b ≡ a + c → b ≡ c
    cancel a b c q = omega arith

    first : (d : ℕ) → 0 < d * 2 ^ 64 → 0 < d
    first d q = omega arith

module _ (sign : Bool) (hi lo j : ℕ) (H : hi < 2 ^ 64) (L : lo < 2 ^ 64) where
  -- the upper limb is not 0
  pub place_high : (c v r : ℕ) → 0 < hi → c ≡ count_leading_zeros 64 hi → Top hi lo c v → Finished v (j + 129 - c) r → Placed sign (hi * 2 ^ 64 + lo) j (of_bits binary64 (bool_byte sign * 2 ^ 63 % 2 ^ 64 + r))
  place_high c v r p zc t f = record {
    value = λ S st.
        ap (λ (z : ℕ). of_bits binary64 (z + r)) (sign_bits sign)
        ∙ f.value sign S (subst (λ (k : ℕ). Near S k v) (at j c (c_le hi lo c H L p zc)) (near_trans S (j + 64) (hi * 2 ^ 64 + lo) (65 - c) v st.0 t.near));
  }
    where
      at : (j c : ℕ) → c ≤ 63 → j + 64 + (65 - c) ≡ j + 129 - c
      at j c x = omega arith

  -- it is 0, and the lower is not
  few : (c : ℕ) → 0 < lo → c ≡ count_leading_zeros 64 lo → 2 ^ 62 ≤ lo → c ≤ 1
  few c p zc big =
      let z = leading_top 64 lo p L in
      go c z.0 (ap (λ (k : ℕ). k + suc z.0) zc ∙ z.1) (pow_lt_back 62 (suc z.0) (lt_of_le_of_lt big z.3))
    where
      pow_lt_back : (i p : ℕ) → 2 ^ i < 2 ^ p → i < p
      pow_lt_back i p h = lt_of_not-le (λ (g : p ≤ i). lt_irrefl (2 ^ i) (lt_of_lt_of_le h (pow_mono g)))

      go : (c j : ℕ) → c + suc j ≡ 64 → 62 < suc j → c ≤ 1
      go c j x y = omega arith

  lo_only : hi ≤ 0 → hi * 2 ^ 64 + lo ≡ lo
  lo_only h = go hi lo h
    where
      go : (a b : ℕ) → a ≤ 0 → a * 2 ^ 64 + b ≡ b
      go a b x = omega arith

  pub place_low : (c v r : ℕ) → hi ≤ 0 → 0 < lo → c ≡ count_leading_zeros 64 lo → Top lo 0 c v → Finished v (j + 65 - c) r → Placed sign (hi * 2 ^ 64 + lo) j (of_bits binary64 (bool_byte sign * 2 ^ 63 % 2 ^ 64 + r))
  place_low c v r h p zc t f =
      let small : c ≤ 63 = c_le lo 0 c L (pow_pos 64) p zc in
      record {
        value = λ S st. ap (λ (z : ℕ). of_bits binary64 (z + r)) (sign_bits sign) ∙ f.value sign S (go S small (subst (λ (w : ℕ). Strong S (j + 64) w) (lo_only h) st));
      }
    where
      at1 : (j c : ℕ) → c ≤ 63 → j + (65 - c) ≡ j + 65 - c
      at1 j c x = omega arith

      at2 : (j c : ℕ) → c ≤ 1 → j + 64 + (1 - c) ≡ j + 65 - c
      at2 j c x = omega arith

      at3 : (c : ℕ) → c ≤ 1 → 65 - c ≡ 64 + (1 - c)
      at3 c x = omega arith

      go : (S : ℕ) → c ≤ 63 → Strong S (j + 64) lo → Near S (j + 65 - c) v
      go S s (n, inl e) =
          subst (λ (k : ℕ). Near S k v) (at1 j c s)
          (near_trans S j (lo * 2 ^ 64 + 0) (65 - c) v (exact (ap (λ (z : ℕ). z * 2 ^ j) (add-zero (lo * 2 ^ 64)) ∙ mul_assoc lo (2 ^ 64) (2 ^ j) ∙ ap (λ (z : ℕ). lo * z) (mul_comm (2 ^ 64) (2 ^ j) ∙ sym (pow-add 2 j 64)) ∙ e)) t.near)
      go S s (n, inr b) =
          let c1 : c ≤ 1 = few c p zc b in
          subst (λ (k : ℕ). Near S k v) (at2 j c c1)
          (near_trans S (j + 64) lo (1 - c) v n (unscale lo (1 - c) v (lo * 2 ^ 64 + 0) (add-zero (lo * 2 ^ 64)) (subst (λ (k : ℕ). Near (lo * 2 ^ 64 + 0) k v) (at3 c c1) t.near)))

  -- both are 0
  pub place_none : hi ≤ 0 → lo ≤ 0 → Placed sign (hi * 2 ^ 64 + lo) j (of_bits binary64 (bool_byte sign * 2 ^ 63 % 2 ^ 64))
  place_none h l = record { value = λ S st. sign_only sign ∙ sym (too_small binary64 sign 0 (2 ^ 2317) (pow_pos 2317) (pow_pos 2317)) ∙ ap (λ (z : ℕ). round binary64 sign z (2 ^ 2317)) (none S st.1) }
    where
      no_limbs : (a b : ℕ) → a ≤ 0 → b ≤ 0 → a * 2 ^ 64 + b ≡ 0
      no_limbs a b x y = omega arith

      small : (W : ℕ) → W ≡ 0 → 2 ^ 62 ≤ W → ⊥
      small W x y = omega arith

      none : (S : ℕ) → ((hi * 2 ^ 64 + lo) * 2 ^ (j + 64) ≡ S) ⊎ (2 ^ 62 ≤ hi * 2 ^ 64 + lo) → 0 ≡ S
      none S (inl e) = sym (zero-mul (2 ^ (j + 64))) ∙ ap (λ (z : ℕ). z * 2 ^ (j + 64)) (sym (no_limbs hi lo h l)) ∙ e
      none S (inr b) = absurd (small (hi * 2 ^ 64 + lo) (no_limbs hi lo h l) b)
