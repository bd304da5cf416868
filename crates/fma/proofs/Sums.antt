-- Sums and differences of a number P * 2 ^ i and one for which Z * 2 ^ i stands, and `sum` opened. Assumes nothing.
use mathlib.Core.Path.{◌≡◌, refl, sym, ap, ◌∙◌, subst}
use mathlib.Core.Logic.{◌⊎◌, inl, inr}
use mathlib.Core.Bool.{Bool, true, false, ◌&&◌, beq, cond}
use Prim.Native.Nat.{ℕ, suc, ◌+◌, ◌-◌, ◌*◌, ◌/◌, ◌%◌, ◌^◌, ◌≤◌, ◌<◌}
use native.Mathlib.Nat.{le_of_eq, le_of_lt, lt_of_lt_of_le, zero-mul, add-mul, add_assoc, mul_comm, mul_assoc, mul_left_comm, mul-pos, mul-lt-mul_of_pos_right, pow-succ', lt_of_mul-lt-mul_right, eq_of_mul-eq-mul_right, mul-sub}
use native.Mathlib.Omega.{arith}
use lib.Dec.{ltb}
use lib.Pow.{pow-add, pow_pos}
use borrow.Author.Tests.{lt-ltb, le-ltb}
use lib.Ieee.{Format, round, sum}
use lib.Ieee.Scale.{round_same}
use Rattle.ieee.proofs.Closest.{Cmp, cmp}
use Rattle.fma.specs.Near.{Near, exact, inside, Strong}

-- ---- `sum` opened
pub sum_like : (f : Format) (s : Bool) (a b c : ℕ) → sum f s a s b c ≡ round f s (a + b) c
unfolding sum
sum_like f true a b c = refl
sum_like f false a b c = refl

pub sum_less : (f : Format) (s t : Bool) (a b c : ℕ) → beq s t ≡ false → a < b → sum f s a t b c ≡ round f t (b - a) c
unfolding sum
sum_less f s t a b c n h =
    ap (λ (z : Bool). cond z (round f s (a + b) c) (cond (ltb a b) (round f t (b - a) c) (round f (s && ltb b a) (a - b) c))) n
    ∙ ap (λ (z : Bool). cond z (round f t (b - a) c) (round f (s && ltb b a) (a - b) c)) (lt-ltb a b h)

pub sum_more : (f : Format) (s t : Bool) (a b c : ℕ) → beq s t ≡ false → b < a → sum f s a t b c ≡ round f s (a - b) c
unfolding sum
sum_more f s t a b c n h =
    ap (λ (z : Bool). cond z (round f s (a + b) c) (cond (ltb a b) (round f t (b - a) c) (round f (s && ltb b a) (a - b) c))) n
    ∙ ap (λ (z : Bool). cond z (round f t (b - a) c) (round f (s && ltb b a) (a - b) c)) (le-ltb a b (le_of_lt h))
    ∙ ap (λ (z : Bool). round f (s && z) (a - b) c) (lt-ltb b a h)
    ∙ ap (λ (z : Bool). round f z (a - b) c) (go s)
  where
    go : (s : Bool) → (s && true) ≡ s
    go true = refl
    go false = refl

pub sum_none : (f : Format) (s t : Bool) (a b c : ℕ) → beq s t ≡ false → a ≡ b → sum f s a t b c ≡ round f false 0 c
unfolding sum
sum_none f s t a b c n h =
    ap (λ (z : Bool). cond z (round f s (a + b) c) (cond (ltb a b) (round f t (b - a) c) (round f (s && ltb b a) (a - b) c))) n
    ∙ ap (λ (z : Bool). cond z (round f t (b - a) c) (round f (s && ltb b a) (a - b) c)) (le-ltb a b (le_of_eq (sym h)))
    ∙ ap (λ (z : Bool). round f (s && z) (a - b) c) (le-ltb b a (le_of_eq h))
    ∙ ap (λ (z : Bool). round f z (a - b) c) (go s)
    ∙ ap (λ (z : ℕ). round f false z c) (diff a b h)
  where
    go : (s : Bool) → (s && false) ≡ false
    go true = refl
    go false = refl

    diff : (a b : ℕ) → a ≡ b → a - b ≡ 0
    diff a b x = omega arith

-- ---- `sum` sees only the values of its two fractions
minus_mul : (a b k : ℕ) → (a - b) * k ≡ a * k - b * k
minus_mul a b k = mul_comm (a - b) k ∙ mul-sub k a b ∙ ap (λ (z : ℕ). z - k * b) (mul_comm k a) ∙ ap (λ (z : ℕ). a * k - z) (mul_comm k b)

module _ (f : Format) (s t : Bool) (a b c a' b' c' : ℕ) (C : 0 < c) (C' : 0 < c') (p : a * c' ≡ a' * c) (q : b * c' ≡ b' * c) where
  lt_same : a < b → a' < b'
  lt_same h = lt_of_mul-lt-mul_right c (subst (λ (z : ℕ). a' * c < z) q (subst (λ (z : ℕ). z < b * c') p (mul-lt-mul_of_pos_right h C')))

  gt_same : b < a → b' < a'
  gt_same h = lt_of_mul-lt-mul_right c (subst (λ (z : ℕ). b' * c < z) p (subst (λ (z : ℕ). z < a * c') q (mul-lt-mul_of_pos_right h C')))

  eq_same : a ≡ b → a' ≡ b'
  eq_same h = eq_of_mul-eq-mul_right c C a' b' (sym p ∙ ap (λ (z : ℕ). z * c') h ∙ q)

  unlike : beq s t ≡ false → sum f s a t b c ≡ sum f s a' t b' c'
  unlike n = go (Prim.Native.Nat.compare a b) (cmp a b)
    where
      go : (o : Prim.Native.Nat.Ordering) → Cmp o a b → sum f s a t b c ≡ sum f s a' t b' c'
      go Prim.Native.Nat.Ordering.lt h =
          sum_less f s t a b c n h ∙ round_same f t (b - a) c (b' - a') c' C C' (minus_mul b a c' ∙ ap (λ (z : ℕ). z - a * c') q ∙ ap (λ (z : ℕ). b' * c - z) p ∙ sym (minus_mul b' a' c)) ∙ sym (sum_less f s t a' b' c' n (lt_same h))
      go Prim.Native.Nat.Ordering.eq h = sum_none f s t a b c n h ∙ round_same f false 0 c 0 c' C C' (zero-mul c' ∙ sym (zero-mul c)) ∙ sym (sum_none f s t a' b' c' n (eq_same h))
      go Prim.Native.Nat.Ordering.gt h =
          sum_more f s t a b c n h ∙ round_same f s (a - b) c (a' - b') c' C C' (minus_mul a b c' ∙ ap (λ (z : ℕ). z - b * c') p ∙ ap (λ (z : ℕ). a' * c - z) q ∙ sym (minus_mul a' b' c)) ∙ sym (sum_more f s t a' b' c' n (gt_same h))

pub sum_frac : (f : Format) (s t : Bool) (a b c a' b' c' : ℕ) → 0 < c → 0 < c' → a * c' ≡ a' * c → b * c' ≡ b' * c → sum f s a t b c ≡ sum f s a' t b' c'
sum_frac f true true a b c a' b' c' C C' p q =
    sum_like f true a b c ∙ round_same f true (a + b) c (a' + b') c' C C' (add-mul a b c' ∙ ap (λ (z : ℕ). z + b * c') p ∙ ap (λ (z : ℕ). a' * c + z) q ∙ sym (add-mul a' b' c)) ∙ sym (sum_like f true a' b' c')
sum_frac f false false a b c a' b' c' C C' p q =
    sum_like f false a b c ∙ round_same f false (a + b) c (a' + b') c' C C' (add-mul a b c' ∙ ap (λ (z : ℕ). z + b * c') p ∙ ap (λ (z : ℕ). a' * c + z) q ∙ sym (add-mul a' b' c)) ∙ sym (sum_like f false a' b' c')
sum_frac f true false a b c a' b' c' C C' p q = unlike f true false a b c a' b' c' C C' p q refl
sum_frac f false true a b c a' b' c' C C' p q = unlike f false true a b c a' b' c' C C' p q refl

pub like_signs : (s t : Bool) → beq s t ≡ true → s ≡ t
like_signs true true e = refl
like_signs true false e = sym e
like_signs false true e = e
like_signs false false e = refl

-- ---- P + Z stands for the sum: Z exactly, or P is even and the sum has 63 digits
abbrev pub Fine : ℕ → ℕ → ℕ → ℕ → ℕ → Type 0
Fine S i Z P W = (Z * 2 ^ i ≡ S) ⊎ ((P % 2 ≡ 0) × (2 ^ 62 ≤ W))

-- where Z is exact and where it is not
unit : (p i : ℕ) → 2 * p * 2 ^ i ≡ p * 2 ^ suc i
unit p i = mul_assoc 2 p (2 ^ i) ∙ mul_left_comm 2 p (2 ^ i) ∙ ap (λ (z : ℕ). p * z) (sym (pow-succ' 2 i))

halves : (P : ℕ) → P % 2 ≡ 0 → P ≡ 2 * (P / 2)
halves P h = omega arith

pub add_near : (P Z W S i : ℕ) → W ≡ P + Z → Near S i Z → Fine S i Z P W → Strong (P * 2 ^ i + S) i W
add_near P Z W S i w n (inl e) =
    let x : W * 2 ^ i ≡ P * 2 ^ i + S = ap (λ (z : ℕ). z * 2 ^ i) w ∙ add-mul P Z (2 ^ i) ∙ ap (λ (z : ℕ). P * 2 ^ i + z) e in (exact x, inl x)
add_near P Z W S i w (exact e) (inr g) =
    let x : W * 2 ^ i ≡ P * 2 ^ i + S = ap (λ (z : ℕ). z * 2 ^ i) w ∙ add-mul P Z (2 ^ i) ∙ ap (λ (z : ℕ). P * 2 ^ i + z) e in (exact x, inl x)
add_near P Z W S i w (inside h r v e p l) (inr g) = (
  inside (P / 2 + h) r (whole P (P / 2) Z h W (halves P g.0) v w)
      (ap (λ (z : ℕ). z * 2 ^ i + S) (halves P g.0) ∙ ap (λ (z : ℕ). z + S) (unit (P / 2) i) ∙ ap (λ (z : ℕ). P / 2 * 2 ^ suc i + z) e ∙ sym (add_assoc (P / 2 * 2 ^ suc i) (h * 2 ^ suc i) r) ∙ ap (λ (z : ℕ). z + r) (sym (add-mul (P / 2) h (2 ^ suc i)))) p l,
  inr g.1,
)
  where
    whole : (P p Z h W : ℕ) → P ≡ 2 * p → Z ≡ 2 * h + 1 → W ≡ P + Z → W ≡ 2 * (p + h) + 1
    whole P p Z h W a b c = omega arith

-- W + Z is P
pub record Less (P Z W S i : ℕ) : Type 0 where
  pub strong : Strong (P * 2 ^ i - S) i W
  pub below : 0 < W → S < P * 2 ^ i

sub_exact : (P Z W S i : ℕ) → W + Z ≡ P → Z * 2 ^ i ≡ S → Less P Z W S i
sub_exact P Z W S i w e =
    let x : W * 2 ^ i + S ≡ P * 2 ^ i = ap (λ (z : ℕ). W * 2 ^ i + z) (sym e) ∙ sym (add-mul W Z (2 ^ i)) ∙ ap (λ (z : ℕ). z * 2 ^ i) w in
    let y : W * 2 ^ i ≡ P * 2 ^ i - S = diff (W * 2 ^ i) S (P * 2 ^ i) x in
    record {
      strong = (exact y, inl y);
      below = λ h. less (W * 2 ^ i) S (P * 2 ^ i) x (mul-pos h (pow_pos i));
    }
  where
    diff : (a b c : ℕ) → a + b ≡ c → a ≡ c - b
    diff a b c h = omega arith

    less : (a b c : ℕ) → a + b ≡ c → 0 < a → b < c
    less a b c h k = omega arith

pub sub_near : (P Z W S i : ℕ) → W + Z ≡ P → Near S i Z → Fine S i Z P W → Less P Z W S i
sub_near P Z W S i w n (inl e) = sub_exact P Z W S i w e
sub_near P Z W S i w (exact e) (inr g) = sub_exact P Z W S i w e
sub_near P Z W S i w (inside h r v e p l) (inr g) =
    let U = 2 ^ suc i in
    let k = P / 2 - h - 1 in
    let even = halves P g.0 in
    let big : P * 2 ^ i ≡ (k + h + 1) * U = ap (λ (z : ℕ). z * 2 ^ i) even ∙ unit (P / 2) i ∙ ap (λ (z : ℕ). z * U) (parts P (P / 2) Z h W even v w g.1) in
    let opened : (k + h + 1) * U ≡ k * U + h * U + U = add-mul (k + h) 1 U ∙ ap (λ (z : ℕ). z + 1 * U) (add-mul k h U) ∙ ap (λ (z : ℕ). k * U + h * U + z) (native.Mathlib.Nat.one-mul U) in
    let d : P * 2 ^ i - S ≡ k * U + (U - r) = diff (P * 2 ^ i) S (k * U) (h * U) U r (big ∙ opened) e l in
    record {
      strong = (inside k (U - r) (whole P (P / 2) Z h W even v w g.1) d (rest U r l) (rest_lt U r p l), inr g.1);
      below = λ q. under (P * 2 ^ i) S (k * U) (h * U) U r (big ∙ opened) e l;
    }
  where
    parts : (P p Z h W : ℕ) → P ≡ 2 * p → Z ≡ 2 * h + 1 → W + Z ≡ P → 2 ^ 62 ≤ W → p ≡ p - h - 1 + h + 1
    parts P p Z h W a b c x = omega arith

    whole : (P p Z h W : ℕ) → P ≡ 2 * p → Z ≡ 2 * h + 1 → W + Z ≡ P → 2 ^ 62 ≤ W → W ≡ 2 * (p - h - 1) + 1
    whole P p Z h W a b c x = omega arith

    diff : (A S ku hu U r : ℕ) → A ≡ ku + hu + U → S ≡ hu + r → r < U → A - S ≡ ku + (U - r)
    diff A S ku hu U r a b c = omega arith

    under : (A S ku hu U r : ℕ) → A ≡ ku + hu + U → S ≡ hu + r → r < U → S < A
    under A S ku hu U r a b c = omega arith

    rest : (U r : ℕ) → r < U → 0 < U - r
    rest U r a = omega arith

    rest_lt : (U r : ℕ) → 0 < r → r < U → U - r < U
    rest_lt U r a b = omega arith

-- ---- both sides times 2 ^ m
pub near_scale : (S n X m : ℕ) → Near S n X → Near (S * 2 ^ m) (n + m) X
near_scale S n X m (exact e) = exact (ap (λ (z : ℕ). X * z) (pow-add 2 n m) ∙ sym (mul_assoc X (2 ^ n) (2 ^ m)) ∙ ap (λ (z : ℕ). z * 2 ^ m) e)
near_scale S n X m (inside h r v e p l) =
    inside h (r * 2 ^ m) v (ap (λ (z : ℕ). z * 2 ^ m) e ∙ add-mul (h * 2 ^ suc n) r (2 ^ m) ∙ ap (λ (z : ℕ). z + r * 2 ^ m) (mul_assoc h (2 ^ suc n) (2 ^ m) ∙ ap (λ (z : ℕ). h * z) (sym (pow-add 2 (suc n) m) ∙ ap (λ (z : ℕ). 2 ^ z) (go n m))))
    (mul-pos p (pow_pos m))
    (lt_of_lt_of_le (mul-lt-mul_of_pos_right l (pow_pos m)) (le_of_eq (sym (pow-add 2 (suc n) m) ∙ ap (λ (z : ℕ). 2 ^ z) (go n m))))
  where
    go : (n m : ℕ) → suc n + m ≡ suc (n + m)
    go n m = omega arith
