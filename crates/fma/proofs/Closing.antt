-- What the proofs of `WideTerm::plus`, `WideTerm::plus_far` and `Wide::sticky_high` cite. Assumes nothing.
use mathlib.Core.Path.{◌≡◌, refl, sym, ap, ◌∙◌, subst}
use mathlib.Core.Logic.{◌⊎◌, inl, inr}
use mathlib.Core.Bool.{Bool, true, false, beq}
use Prim.Native.Nat.{ℕ, ◌+◌, ◌-◌, ◌*◌, ◌%◌, ◌^◌, ◌≤◌, ◌<◌}
use native.Mathlib.Nat.{zero-mul, add_comm, add-mul, mul_assoc, mul-lt-mul_of_pos_right}
use native.Mathlib.Omega.{arith}
use lib.Pow.{pow-add, pow_pos}
use lib.Bits.{bit_or}
use lib.Arith.{digits_div, digits_mod}
use lib.Ieee.{Float, binary64, round, sum}
use Rattle.fma.specs.Near.{Near, exact, Placed, Settled, Summed, Jammed}
use Rattle.fma.proofs.Cutting.{near_trans, near_cut, near_lt_back}
use Rattle.fma.proofs.Sums.{sum_like, sum_less, sum_more, sum_none, sum_frac, like_signs, Fine, add_near, sub_near, near_scale}

abbrev Given : ℕ → ℕ → ℕ → ℕ → Type 0
Given S i Z P = (Z * 2 ^ i ≡ S) ⊎ ((P % 2 ≡ 0) × (2 ^ 62 + Z ≤ P))

pub settle_like : (s t : Bool) (P k Z W : ℕ) (r : Float) → beq s t ≡ true → W ≡ P + Z → Placed s W k r → Settled s P k t Z r
settle_like s t P k Z W r st w pl = record {
  is = λ S n g.
      pl.value (P * 2 ^ (k + 64) + S) (add_near P Z W S (k + 64) w n (fine S g))
      ∙ sym (ap (λ (z : Bool). sum binary64 s (P * 2 ^ (k + 64)) z S (2 ^ 2317)) (sym (like_signs s t st)) ∙ sum_like binary64 s (P * 2 ^ (k + 64)) S (2 ^ 2317));
}
  where
    enough : (P Z W : ℕ) → W ≡ P + Z → 2 ^ 62 + Z ≤ P → 2 ^ 62 ≤ W
    enough P Z W a b = omega arith

    fine : (S : ℕ) → Given S (k + 64) Z P → Fine S (k + 64) Z P W
    fine S (inl e) = inl e
    fine S (inr g) = inr (g.0, enough P Z W w g.1)

pub settle_less : (s t : Bool) (P k Z W : ℕ) (r : Float) → beq s t ≡ false → P < Z → W + P ≡ Z → Placed t W k r → Settled s P k t Z r
settle_less s t P k Z W r d h w pl = record { is = λ S n g. go S g }
  where
    none : (P Z : ℕ) → P < Z → 2 ^ 62 + Z ≤ P → ⊥
    none P Z x y = omega arith

    diff : (a b c : ℕ) → a + b ≡ c → a ≡ c - b
    diff a b c x = omega arith

    go : (S : ℕ) → Given S (k + 64) Z P → r ≡ sum binary64 s (P * 2 ^ (k + 64)) t S (2 ^ 2317)
    go S (inr g) = absurd (none P Z h g.1)
    go S (inl e) =
        let U = 2 ^ (k + 64) in
        pl.value (W * U) (exact refl, inl refl)
        ∙ ap (λ (z : ℕ). round binary64 t z (2 ^ 2317)) (diff (W * U) (P * U) S (sym (add-mul W P U) ∙ ap (λ (z : ℕ). z * U) w ∙ e))
        ∙ sym (sum_less binary64 s t (P * U) S (2 ^ 2317) d (subst (λ (z : ℕ). P * U < z) e (mul-lt-mul_of_pos_right h (pow_pos (k + 64)))))

pub settle_more : (s t : Bool) (P k Z W : ℕ) (r : Float) → beq s t ≡ false → Z < P → W + Z ≡ P → Placed s W k r → Settled s P k t Z r
settle_more s t P k Z W r d h w pl = record { is = λ S n g. go S (sub_near P Z W S (k + 64) w n (fine S g)) }
  where
    some : (P Z W : ℕ) → W + Z ≡ P → Z < P → 0 < W
    some P Z W x y = omega arith

    enough : (P Z W : ℕ) → W + Z ≡ P → 2 ^ 62 + Z ≤ P → 2 ^ 62 ≤ W
    enough P Z W x y = omega arith

    fine : (S : ℕ) → Given S (k + 64) Z P → Fine S (k + 64) Z P W
    fine S (inl e) = inl e
    fine S (inr g) = inr (g.0, enough P Z W w g.1)

    go : (S : ℕ) → Rattle.fma.proofs.Sums.Less P Z W S (k + 64) → r ≡ sum binary64 s (P * 2 ^ (k + 64)) t S (2 ^ 2317)
    go S l = pl.value (P * 2 ^ (k + 64) - S) l.strong ∙ sym (sum_more binary64 s t (P * 2 ^ (k + 64)) S (2 ^ 2317) d (l.below (some P Z W w h)))

-- they undo each other
pub settle_none : (s t : Bool) (P k Z : ℕ) (r : Float) → beq s t ≡ false → P ≡ Z → Placed false 0 k r → Settled s P k t Z r
settle_none s t P k Z r d q pl = record { is = λ S n g. go S g }
  where
    none : (P Z : ℕ) → P ≡ Z → 2 ^ 62 + Z ≤ P → ⊥
    none P Z x y = omega arith

    go : (S : ℕ) → Given S (k + 64) Z P → r ≡ sum binary64 s (P * 2 ^ (k + 64)) t S (2 ^ 2317)
    go S (inr g) = absurd (none P Z q g.1)
    go S (inl e) =
        let n : 0 * 2 ^ (k + 64) ≡ 0 = zero-mul (2 ^ (k + 64)) in
        pl.value 0 (exact n, inl n) ∙ sym (sum_none binary64 s t (P * 2 ^ (k + 64)) S (2 ^ 2317) d (ap (λ (z : ℕ). z * 2 ^ (k + 64)) q ∙ e))

-- ---- 2 ^ 64 taken out of a sum
pub sum_64 : (s t : Bool) (A B a b : ℕ) → A ≡ a * 2 ^ 64 → B ≡ b * 2 ^ 64 → sum binary64 s A t B (2 ^ 2317) ≡ sum binary64 s a t b (2 ^ 2253)
sum_64 s t A B a b x y =
    sum_frac binary64 s t A B (2 ^ 2317) a b (2 ^ 2253) (pow_pos 2317) (pow_pos 2253) (ap (λ (z : ℕ). z * 2 ^ 2253) x ∙ mul_assoc a (2 ^ 64) (2 ^ 2253)) (ap (λ (z : ℕ). z * 2 ^ 2253) y ∙ mul_assoc b (2 ^ 64) (2 ^ 2253))

-- ---- `sticky_high`: h stands for P / 2 ^ 64
pub high_odd : (ph pl : ℕ) → pl < 2 ^ 64 → (pl ≡ 0 → ⊥) → Near (ph * 2 ^ 64 + pl) 64 (bit_or ph 1)
high_odd ph pl l e = subst (λ (z : ℕ). Near (ph * 2 ^ 64 + pl) 64 (bit_or z 1)) (digits_div ph l) (near_cut (ph * 2 ^ 64 + pl) 64 (subst (λ (z : ℕ). 0 < z) (sym (digits_mod ph l)) (go pl e)))
  where
    go : (b : ℕ) → (b ≡ 0 → ⊥) → 0 < b
    go b x = omega arith

-- the product, in the second value's scale: m is 10 or 11
module _ (P k q d h u m : ℕ) (n : Near P 64 h) (j : Jammed h (d - k - (64 + m)) u) (gap : k + 64 + m ≤ d) where
  in_scale : Near (P * 2 ^ (k + 64)) (d - m + 64) u
  in_scale = subst (λ (z : ℕ). Near (P * 2 ^ (k + 64)) z u) (go d k m gap) (near_scale P (64 + (d - k - (64 + m))) u (k + 64) (near_trans P 64 h (d - k - (64 + m)) u n j.near))
    where
      go : (d k m : ℕ) → k + 64 + m ≤ d → 64 + (d - k - (64 + m)) + (k + 64) ≡ d - m + 64
      go d k m x = omega arith

  q_is : q * 2 ^ m * 2 ^ (d - m + 64) ≡ q * 2 ^ d * 2 ^ 64
  q_is = mul_assoc q (2 ^ m) (2 ^ (d - m + 64)) ∙ ap (λ (z : ℕ). q * z) (sym (pow-add 2 m (d - m + 64)) ∙ ap (λ (z : ℕ). 2 ^ z) (go d k m gap) ∙ pow-add 2 d 64) ∙ sym (mul_assoc q (2 ^ d) (2 ^ 64))
    where
      go : (d k m : ℕ) → k + 64 + m ≤ d → m + (d - m + 64) ≡ d + 64
      go d k m x = omega arith

  P_is : P * 2 ^ (k + 64) ≡ P * 2 ^ k * 2 ^ 64
  P_is = ap (λ (z : ℕ). P * z) (pow-add 2 k 64) ∙ sym (mul_assoc P (2 ^ k) (2 ^ 64))

-- ---- `plus_far`: the bound on h
pub high_lt : (ph pl h : ℕ) → ph < 2 ^ 43 → pl < 2 ^ 64 → Near (ph * 2 ^ 64 + pl) 64 h → h < 2 ^ 43
high_lt ph pl h a b n = near_lt_back (ph * 2 ^ 64 + pl) 64 h 42 n (lib.Arith.digits_lt a b)

module _ (s t : Bool) (P k q d h u : ℕ) (r : Float) (qlo : 2 ^ 52 ≤ q) (qhi : q < 2 ^ 53) (hh : h < 2 ^ 43) (n : Near P 64 h) (gap : k + 74 < d) where
  pub far_like : beq s t ≡ true → Jammed h (d - k - 74) u → Placed t (0 * 2 ^ 64 + (q * 2 ^ 10 % 2 ^ 64 + u)) (d - 10) r → Summed s P k t q d r
  far_like st j pl =
      let W = q * 2 ^ 10 + u in
      let i = d - 10 + 64 in
      let S = P * 2 ^ (k + 64) in
      let Q = q * 2 ^ 10 * 2 ^ i in
      let g : k + 64 + 10 ≤ d = room k d gap in
      let pl' : Placed t W (d - 10) r = subst (λ (z : ℕ). Placed t z (d - 10) r) (tidy q u qhi) pl in
      record {
        is =
            pl'.value (Q + S) (add_near (q * 2 ^ 10) u W S i refl (in_scale P k q d h u 10 n j g) (inr (even q, big q u qlo)))
            ∙ ap (λ (z : ℕ). round binary64 t z (2 ^ 2317)) (add_comm Q S)
            ∙ sym (sum_like binary64 t S Q (2 ^ 2317))
            ∙ ap (λ (z : Bool). sum binary64 z S t Q (2 ^ 2317)) (sym (like_signs s t st))
            ∙ sum_64 s t S Q (P * 2 ^ k) (q * 2 ^ d) (P_is P k q d h u 10 n j g) (q_is P k q d h u 10 n j g);
      }
    where
      room : (k d : ℕ) → k + 74 < d → k + 64 + 10 ≤ d
      room k d x = omega arith

      tidy : (q u : ℕ) → q < 2 ^ 53 → 0 * 2 ^ 64 + (q * 2 ^ 10 % 2 ^ 64 + u) ≡ q * 2 ^ 10 + u
      tidy q u x = omega arith

      big : (q u : ℕ) → 2 ^ 52 ≤ q → 2 ^ 62 ≤ q * 2 ^ 10 + u
      big q u x = omega arith

      even : (q : ℕ) → (q * 2 ^ 10) % 2 ≡ 0
      even q = omega arith

  pub far_unlike : beq s t ≡ false → Jammed h (d - k - 75) u → Placed t (0 * 2 ^ 64 + (q * 2 ^ 11 % 2 ^ 64 - u)) (d - 11) r → Summed s P k t q d r
  far_unlike df j pl =
      let W = q * 2 ^ 11 - u in
      let i = d - 11 + 64 in
      let S = P * 2 ^ (k + 64) in
      let Q = q * 2 ^ 11 * 2 ^ i in
      let g : k + 64 + 11 ≤ d = room k d gap in
      let pl' : Placed t W (d - 11) r = subst (λ (z : ℕ). Placed t z (d - 11) r) (tidy q u qhi) pl in
      let l = sub_near (q * 2 ^ 11) u W S i (back q h u qlo hh j.small) (in_scale P k q d h u 11 n j g) (inr (even q, big q h u qlo hh j.small)) in
      let w : 0 < W = some q h u qlo hh j.small in
      record {
        is =
            pl'.value (Q - S) l.strong
            ∙ sym (sum_less binary64 s t S Q (2 ^ 2317) df (l.below w))
            ∙ sum_64 s t S Q (P * 2 ^ k) (q * 2 ^ d) (P_is P k q d h u 11 n j g) (q_is P k q d h u 11 n j g);
      }
    where
      room : (k d : ℕ) → k + 74 < d → k + 64 + 11 ≤ d
      room k d x = omega arith

      tidy : (q u : ℕ) → q < 2 ^ 53 → 0 * 2 ^ 64 + (q * 2 ^ 11 % 2 ^ 64 - u) ≡ q * 2 ^ 11 - u
      tidy q u x = omega arith

      back : (q h u : ℕ) → 2 ^ 52 ≤ q → h < 2 ^ 43 → u ≤ h + 1 → q * 2 ^ 11 - u + u ≡ q * 2 ^ 11
      back q h u x y z = omega arith

      some : (q h u : ℕ) → 2 ^ 52 ≤ q → h < 2 ^ 43 → u ≤ h + 1 → 0 < q * 2 ^ 11 - u
      some q h u x y z = omega arith

      big : (q h u : ℕ) → 2 ^ 52 ≤ q → h < 2 ^ 43 → u ≤ h + 1 → 2 ^ 62 ≤ q * 2 ^ 11 - u
      big q h u x y z = omega arith

      even : (q : ℕ) → (q * 2 ^ 11) % 2 ≡ 0
      even q = omega arith
