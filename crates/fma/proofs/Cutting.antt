-- Digits cut off with a mark left (`Near`): by one shift, by two in a row, and by the shifts of `jam` and `top63`. Assumes nothing.
use mathlib.Core.Path.{◌≡◌, refl, sym, ap, ◌∙◌, subst}
use mathlib.Core.Logic.{◌⊎◌, inl, inr}
use Prim.Native.Nat.{ℕ, zero, suc, ◌+◌, ◌-◌, ◌*◌, ◌/◌, ◌%◌, ◌^◌, ◌≤◌, ◌<◌}
use native.Mathlib.Nat.{le_trans, le_of_eq, le_refl, lt_of_lt_of_le, lt_of_le_of_lt, lt_irrefl, zero-lt-suc, zero-add, add-zero, add_assoc, add-mul, zero-mul, mul-one, mul_comm, mul_assoc, mul_left_comm, mul-pos, mul-le-mul_right, mul-lt-mul_of_pos_right, pow-succ', div-add-mod', mod-lt, mod-eq_of_lt, div-mul-le_self, eq-zero-or-pos}
use native.Mathlib.Omega.{arith}
use mathlib.Core.Bool.{not}
use lib.Dec.{lit≤, eqb, eqb-suc-zero}
use lib.Arith.{digits_div, digits_mod, digits_lt}
use lib.Pow.{pow-add, pow_pos, pow_mono, shl_lt}
use lib.Bits.{bit_and, bit_or, and_mask, or_add_and}
use lib.Count.{count_leading_zeros, leading_top}
use mir.Val.{bool_byte}
use Rattle.fma.specs.Near.{Near, exact, inside, Jammed, Top}

-- q made odd
pub odd_is : (q : ℕ) → bit_or q 1 ≡ 2 * (q / 2) + 1
odd_is q = go (bit_or q 1) (bit_and q 1) q (or_add_and q 1) (and_mask q 1)
  where
    go : (o a q : ℕ) → o + a ≡ q + 1 → a ≡ q % 2 → o ≡ 2 * (q / 2) + 1
    go o a q x y = omega arith

-- something is cut off
pub near_cut : (w n : ℕ) → 0 < w % 2 ^ n → Near w n (bit_or (w / 2 ^ n) 1)
near_cut w n h =
    let q = w / 2 ^ n in
    let m = w % 2 ^ n in
    inside (q / 2) (q % 2 * 2 ^ n + m) (odd_is q)
    (sym (div-add-mod' w (2 ^ n)) ∙ ap (λ (z : ℕ). z * 2 ^ n + m) (sym (div-add-mod' q 2)) ∙ ap (λ (z : ℕ). z + m) (add-mul (q / 2 * 2) (q % 2) (2 ^ n)) ∙ add_assoc (q / 2 * 2 * 2 ^ n) (q % 2 * 2 ^ n) m
    ∙ ap (λ (z : ℕ). z + (q % 2 * 2 ^ n + m)) (mul_assoc (q / 2) 2 (2 ^ n) ∙ ap (λ (z : ℕ). q / 2 * z) (sym (pow-succ' 2 n))))
    (some (q % 2 * 2 ^ n) m h)
    (subst (λ (z : ℕ). q % 2 * 2 ^ n + m < z) (sym (pow-succ' 2 n)) (digits_lt (mod-lt q (zero-lt-suc 1)) (mod-lt w (pow_pos n))))
  where
    some : (a b : ℕ) → 0 < b → 0 < a + b
    some a b x = omega arith

-- nothing is
pub near_even : (w n : ℕ) → w % 2 ^ n ≡ 0 → Near w n (w / 2 ^ n)
near_even w n h = exact (sym (add-zero (w / 2 ^ n * 2 ^ n)) ∙ ap (λ (z : ℕ). w / 2 ^ n * 2 ^ n + z) (sym h) ∙ div-add-mod' w (2 ^ n))

-- all is
pub near_all : (w n : ℕ) → 0 < w → w < 2 ^ n → Near w n 1
near_all w n h l = inside 0 w refl (sym (ap (λ (z : ℕ). z + w) (zero-mul (2 ^ suc n)) ∙ zero-add w)) h (lt_of_lt_of_le l (pow_mono (native.Mathlib.Nat.le-suc n)))

-- ---- one cut after another
even_odd : (a h : ℕ) → 2 * a ≡ 2 * h + 1 → ⊥
even_odd a h x = omega arith

pow_swap : (n i : ℕ) → 2 ^ suc n * 2 ^ i ≡ 2 ^ suc (i + n)
pow_swap n i = mul_comm (2 ^ suc n) (2 ^ i) ∙ sym (pow-add 2 i (suc n)) ∙ ap (λ (z : ℕ). 2 ^ z) (native.Mathlib.Nat.add-suc i n)

pub near_trans : (S i X n Y : ℕ) → Near S i X → Near X n Y → Near S (i + n) Y
near_trans S i X n Y (exact a) (exact b) =
    exact (ap (λ (z : ℕ). Y * z) (pow-add 2 i n ∙ mul_comm (2 ^ i) (2 ^ n)) ∙ sym (mul_assoc Y (2 ^ n) (2 ^ i)) ∙ ap (λ (z : ℕ). z * 2 ^ i) b ∙ a)
near_trans S i X n Y (exact a) (inside h r v e p l) =
    inside h (r * 2 ^ i) v
    (sym a ∙ ap (λ (z : ℕ). z * 2 ^ i) e ∙ add-mul (h * 2 ^ suc n) r (2 ^ i) ∙ ap (λ (z : ℕ). z + r * 2 ^ i) (mul_assoc h (2 ^ suc n) (2 ^ i) ∙ ap (λ (z : ℕ). h * z) (pow_swap n i)))
    (mul-pos p (pow_pos i))
    (subst (λ (z : ℕ). r * 2 ^ i < z) (pow_swap n i) (mul-lt-mul_of_pos_right l (pow_pos i)))
near_trans S i X zero Y (inside h r v e p l) (exact b) =
    let y : Y ≡ X = sym (mul-one Y) ∙ b in
    let k : i ≡ i + 0 = sym (add-zero i) in
    inside h r (y ∙ v) (e ∙ ap (λ (z : ℕ). h * 2 ^ suc z + r) k) p (subst (λ (z : ℕ). r < 2 ^ suc z) k l)
near_trans S i X (suc n) Y (inside h r v e p l) (exact b) =
    absurd (even_odd (Y * 2 ^ n) h (sym (ap (λ (z : ℕ). Y * z) (pow-succ' 2 n) ∙ mul_left_comm Y 2 (2 ^ n)) ∙ b ∙ v))
near_trans S i X n Y (inside h r v e p l) (inside g t u d q m) =
    let P = 2 ^ n in
    let x : 2 * h + 1 ≡ 2 * (g * P) + t = sym v ∙ d ∙ ap (λ (z : ℕ). g * z + t) (pow-succ' 2 n) ∙ ap (λ (z : ℕ). z + t) (mul_left_comm g 2 P) in
    let w : t < 2 * P = subst (λ (z : ℕ). t < z) (pow-succ' 2 n) m in
    let o = t / 2 in
    let hh : h ≡ g * P + o = whole h (g * P) t x in
    let o_lt : o < P = half t P w in
    let U = 2 ^ suc i in
    inside g (o * U + r) u
    (e ∙ ap (λ (z : ℕ). z * U + r) hh ∙ ap (λ (z : ℕ). z + r) (add-mul (g * P) o U) ∙ add_assoc (g * P * U) (o * U) r
    ∙ ap (λ (z : ℕ). z + (o * U + r)) (mul_assoc g P U ∙ ap (λ (z : ℕ). g * z) (sym (pow-add 2 n (suc i)) ∙ ap (λ (z : ℕ). 2 ^ z) (swap n i))))
    (some (o * U) r p)
    (lt_of_lt_of_le (digits_lt o_lt l) (le_of_eq (sym (pow-add 2 n (suc i)) ∙ ap (λ (z : ℕ). 2 ^ z) (swap n i))))
  where
    whole : (h a t : ℕ) → 2 * h + 1 ≡ 2 * a + t → h ≡ a + t / 2
    whole h a t x = omega arith

    half : (t P : ℕ) → t < 2 * P → t / 2 < P
    half t P x = omega arith

    some : (a b : ℕ) → 0 < b → 0 < a + b
    some a b x = omega arith

    swap : (n i : ℕ) → n + suc i ≡ suc (i + n)
    swap n i = omega arith

-- ---- `jam`
odd_le : (q : ℕ) → bit_or q 1 ≤ q + 1
odd_le q = go (bit_or q 1) q (odd_is q)
  where
    go : (o q : ℕ) → o ≡ 2 * (q / 2) + 1 → o ≤ q + 1
    go o q x = omega arith

plus_le : (a b : ℕ) → a ≤ b → a + 1 ≤ b + 1
plus_le a b x = omega arith

pub jam_all : (w n : ℕ) → w < 2 ^ 64 → (w ≡ 0 → ⊥) → 63 < n → Jammed w n 1
jam_all w n l e h = record { near = near_all w n (go w e) (lt_of_lt_of_le l (pow_mono h)); small = one w }
  where
    go : (w : ℕ) → (w ≡ 0 → ⊥) → 0 < w
    go w x = omega arith

    one : (w : ℕ) → 1 ≤ w + 1
    one w = omega arith

pub jam_bit : (w n : ℕ) → w < 2 ^ 64 → 63 < n → Jammed w n (bool_byte (not (eqb w 0)))
jam_bit zero n l h = record { near = exact (zero-mul (2 ^ n)); small = omega arith }
jam_bit (suc w) n l h = rw (eqb-suc-zero w) (jam_all (suc w) n l (none w) h)
  where
    none : (w : ℕ) → suc w ≡ 0 → ⊥
    none w e = omega (arith, e)

back_is : (w n : ℕ) → w < 2 ^ 64 → w / 2 ^ n * 2 ^ n % 2 ^ 64 ≡ w / 2 ^ n * 2 ^ n
back_is w n l = mod-eq_of_lt (lt_of_le_of_lt (div-mul-le_self w (2 ^ n)) l)

pub jam_odd : (w n : ℕ) → w < 2 ^ 64 → (w / 2 ^ n * 2 ^ n % 2 ^ 64 ≡ w → ⊥) → Jammed w n (bit_or (w / 2 ^ n) 1)
jam_odd w n l e = record {
  near = near_cut w n (go (w / 2 ^ n * 2 ^ n) (w % 2 ^ n) w (div-add-mod' w (2 ^ n)) (λ x. e (back_is w n l ∙ x)));
  small = le_trans (odd_le (w / 2 ^ n)) (plus_le (w / 2 ^ n) w (native.Mathlib.Nat.div-le_self w (2 ^ n)));
}
  where
    go : (p m w : ℕ) → p + m ≡ w → (p ≡ w → ⊥) → 0 < m
    go p m w x y = omega arith

-- ---- bounds on S are bounds on X
pub near_lt_back : (S i X n : ℕ) → Near S i X → S < 2 ^ suc n * 2 ^ i → X < 2 ^ suc n
near_lt_back S i X n (exact e) h = native.Mathlib.Nat.lt_of_mul-lt-mul_right (2 ^ i) (subst (λ (z : ℕ). z < 2 ^ suc n * 2 ^ i) (sym e) h)
near_lt_back S i X n (inside a r v e p l) h =
    subst (λ (z : ℕ). X < z) (sym (pow-succ' 2 n)) (go X a (2 ^ n) v
    (native.Mathlib.Nat.lt_of_mul-lt-mul_right (2 ^ suc i) (lt_of_le_of_lt (subst (λ (z : ℕ). a * 2 ^ suc i ≤ z) (sym e) (native.Mathlib.Nat.le-add_right (a * 2 ^ suc i) r)) (lt_of_lt_of_le h (le_of_eq (shift n i))))))
  where
    go : (X a B : ℕ) → X ≡ 2 * a + 1 → a < B → X < 2 * B
    go X a B x y = omega arith

    shift : (n i : ℕ) → 2 ^ suc n * 2 ^ i ≡ 2 ^ n * 2 ^ suc i
    shift n i = sym (pow-add 2 (suc n) i) ∙ ap (λ (z : ℕ). 2 ^ z) (one n i) ∙ pow-add 2 n (suc i)
      where
        one : (n i : ℕ) → suc n + i ≡ n + suc i
        one n i = omega arith

pub near_ge_back : (S i X n : ℕ) → Near S i X → 2 ^ suc n * 2 ^ i ≤ S → 2 ^ suc n ≤ X
near_ge_back S i X n (exact e) h = native.Mathlib.Nat.le_of_mul-le-mul_right (subst (λ (z : ℕ). 2 ^ suc n * 2 ^ i ≤ z) (sym e) h) (pow_pos i)
near_ge_back S i X n (inside a r v e p l) h =
    subst (λ (z : ℕ). z ≤ X) (sym (pow-succ' 2 n)) (go X a (2 ^ n) v
    (native.Mathlib.Nat.lt_of_mul-lt-mul_right (2 ^ suc i) (lt_of_le_of_lt (le_of_eq (sym (shift n i))) (lt_of_le_of_lt h
    (subst (λ (z : ℕ). z < suc a * 2 ^ suc i) (sym e) (digits_lt (le_refl (suc a)) l))))))
  where
    go : (X a B : ℕ) → X ≡ 2 * a + 1 → B < suc a → 2 * B ≤ X
    go X a B x y = omega arith

    shift : (n i : ℕ) → 2 ^ suc n * 2 ^ i ≡ 2 ^ n * 2 ^ suc i
    shift n i = sym (pow-add 2 (suc n) i) ∙ ap (λ (z : ℕ). 2 ^ z) (one n i) ∙ pow-add 2 n (suc i)
      where
        one : (n i : ℕ) → suc n + i ≡ n + suc i
        one n i = omega arith

-- ---- `top63`
module _ (a b c : ℕ) (A : a < 2 ^ 64) (B : b < 2 ^ 64) (p : 0 < a) (zc : c ≡ count_leading_zeros 64 a) where
  z : (j : ℕ) × (count_leading_zeros 64 a + suc j ≡ 64) × (2 ^ j ≤ a) × (a < 2 ^ suc j)
  z = leading_top 64 a p A

  j : ℕ
  j = z.0

  sum : c + suc z.0 ≡ 64
  sum = ap (λ (k : ℕ). k + suc z.0) zc ∙ z.1

  pub c_le : c ≤ 63
  c_le = go c z.0 sum
    where
      go : (c j : ℕ) → c + suc j ≡ 64 → c ≤ 63
      go c j x = omega arith

  lo_is : 2 ^ 62 * 2 ^ (65 - c) ≡ 2 ^ z.0 * 2 ^ 64
  lo_is = sym (pow-add 2 62 (65 - c)) ∙ ap (λ (k : ℕ). 2 ^ k) (go c z.0 sum) ∙ pow-add 2 z.0 64
    where
      go : (c j : ℕ) → c + suc j ≡ 64 → 62 + (65 - c) ≡ j + 64
      go c j x = omega arith

  hi_is : 2 ^ suc z.0 * 2 ^ 64 ≡ 2 ^ 63 * 2 ^ (65 - c)
  hi_is = sym (pow-add 2 (suc z.0) 64) ∙ ap (λ (k : ℕ). 2 ^ k) (go c z.0 sum) ∙ pow-add 2 63 (65 - c)
    where
      go : (c j : ℕ) → c + suc j ≡ 64 → suc j + 64 ≡ 63 + (65 - c)
      go c j x = omega arith

  w_lo : 2 ^ 62 * 2 ^ (65 - c) ≤ a * 2 ^ 64 + b
  w_lo = le_trans (le_of_eq lo_is) (le_trans (mul-le-mul_right (2 ^ 64) z.2) (native.Mathlib.Nat.le-add_right (a * 2 ^ 64) b))

  w_hi : a * 2 ^ 64 + b < 2 ^ 63 * 2 ^ (65 - c)
  w_hi = lt_of_lt_of_le (digits_lt z.3 B) (le_of_eq hi_is)

  pub top_of : (r : ℕ) → Near (a * 2 ^ 64 + b) (65 - c) r → Top a b c r
  top_of r n = record { lo = near_ge_back (a * 2 ^ 64 + b) (65 - c) r 61 n w_lo; hi = near_lt_back (a * 2 ^ 64 + b) (65 - c) r 62 n w_hi; near = n }

  -- c is 0: h stands for the upper limb
  pub top_none : (h r : ℕ) → c ≡ 0 → Near (a * 2 ^ 64 + b) 64 h → Jammed h 1 r → Top a b c r
  top_none h r e n j = top_of r (subst (λ (k : ℕ). Near (a * 2 ^ 64 + b) (65 - k) r) (sym e) (near_trans (a * 2 ^ 64 + b) 64 h 1 r n j.near))

  -- c is above 0: M is 2 ^ (65 - c), of which the limb's weight is a multiple
  module _ (k : 0 < c) where
    M_is : 2 ^ 64 ≡ 2 ^ (c - 1) * 2 ^ (65 - c)
    M_is = ap (λ (n : ℕ). 2 ^ n) (sym (go c k c_le)) ∙ pow-add 2 (c - 1) (65 - c)
      where
        go : (c : ℕ) → 0 < c → c ≤ 63 → c - 1 + (65 - c) ≡ 64
        go c x y = omega arith

    w_is : a * 2 ^ 64 + b ≡ (a * 2 ^ (c - 1) + b / 2 ^ (65 - c)) * 2 ^ (65 - c) + b % 2 ^ (65 - c)
    w_is =
        ap (λ (n : ℕ). a * n + b) M_is
        ∙ ap (λ (n : ℕ). n + b) (sym (mul_assoc a (2 ^ (c - 1)) (2 ^ (65 - c))))
        ∙ ap (λ (n : ℕ). a * 2 ^ (c - 1) * 2 ^ (65 - c) + n) (sym (div-add-mod' b (2 ^ (65 - c))))
        ∙ sym (add_assoc (a * 2 ^ (c - 1) * 2 ^ (65 - c)) (b / 2 ^ (65 - c) * 2 ^ (65 - c)) (b % 2 ^ (65 - c)))
        ∙ ap (λ (n : ℕ). n + b % 2 ^ (65 - c)) (sym (add-mul (a * 2 ^ (c - 1)) (b / 2 ^ (65 - c)) (2 ^ (65 - c))))

    w_div : (a * 2 ^ 64 + b) / 2 ^ (65 - c) ≡ a * 2 ^ (c - 1) + b / 2 ^ (65 - c)
    w_div = ap (λ (n : ℕ). n / 2 ^ (65 - c)) w_is ∙ digits_div (a * 2 ^ (c - 1) + b / 2 ^ (65 - c)) (mod-lt b (pow_pos (65 - c)))

    w_mod : (a * 2 ^ 64 + b) % 2 ^ (65 - c) ≡ b % 2 ^ (65 - c)
    w_mod = ap (λ (n : ℕ). n % 2 ^ (65 - c)) w_is ∙ digits_mod (a * 2 ^ (c - 1) + b / 2 ^ (65 - c)) (mod-lt b (pow_pos (65 - c)))

    abbrev v : ℕ
    v = a * 2 ^ (c - 1) % 2 ^ 64 + b / 2 / 2 ^ (64 - c)

    upper_lt : a * 2 ^ (c - 1) < 2 ^ 63
    upper_lt = lt_of_lt_of_le (shl_lt (suc z.0) (c - 1) z.3) (pow_mono (go c z.0 sum k))
      where
        go : (c j : ℕ) → c + suc j ≡ 64 → 0 < c → suc j + (c - 1) ≤ 63
        go c j x y = omega arith

    v_is : v ≡ (a * 2 ^ 64 + b) / 2 ^ (65 - c)
    v_is =
        ap (λ (n : ℕ). n + b / 2 / 2 ^ (64 - c)) (mod-eq_of_lt (lt_of_lt_of_le upper_lt (lit≤ tt)))
        ∙ ap (λ (n : ℕ). a * 2 ^ (c - 1) + n) (lib.Pow.shr-shr b 1 (64 - c) ∙ ap (λ (n : ℕ). b / 2 ^ n) (go c c_le))
        ∙ sym w_div
      where
        go : (c : ℕ) → c ≤ 63 → 1 + (64 - c) ≡ 65 - c
        go c x = omega arith

    pub v_lt : v < 2 ^ 64
    v_lt = lt_of_lt_of_le (subst (λ (n : ℕ). n < 2 ^ 63) (sym v_is) ((native.Mathlib.Nat.div-lt_iff_lt-mul (pow_pos (65 - c))).1 w_hi)) (lit≤ tt)

    rest_is : b * 2 ^ (c - 1) % 2 ^ 64 ≡ b % 2 ^ (65 - c) * 2 ^ (c - 1)
    rest_is =
        ap (λ (n : ℕ). b * 2 ^ (c - 1) % n) (M_is ∙ mul_comm (2 ^ (c - 1)) (2 ^ (65 - c)))
        ∙ ap (λ (n : ℕ). n * 2 ^ (c - 1) % (2 ^ (65 - c) * 2 ^ (c - 1))) (sym (div-add-mod' b (2 ^ (65 - c))))
        ∙ ap (λ (n : ℕ). n % (2 ^ (65 - c) * 2 ^ (c - 1))) (add-mul (b / 2 ^ (65 - c) * 2 ^ (65 - c)) (b % 2 ^ (65 - c)) (2 ^ (c - 1)) ∙ ap (λ (n : ℕ). n + b % 2 ^ (65 - c) * 2 ^ (c - 1)) (mul_assoc (b / 2 ^ (65 - c)) (2 ^ (65 - c)) (2 ^ (c - 1))))
        ∙ digits_mod (b / 2 ^ (65 - c)) (mul-lt-mul_of_pos_right (mod-lt b (pow_pos (65 - c))) (pow_pos (c - 1)))

    pub top_even : b * 2 ^ (c - 1) % 2 ^ 64 ≡ 0 → Top a b c v
    top_even e =
        top_of v (subst (λ (n : ℕ). Near (a * 2 ^ 64 + b) (65 - c) n) (sym v_is) (near_even (a * 2 ^ 64 + b) (65 - c) (w_mod ∙ go (b % 2 ^ (65 - c)) (eq-zero-or-pos (b % 2 ^ (65 - c))) (sym rest_is ∙ e))))
      where
        go : (m : ℕ) → (m ≡ 0) ⊎ (0 < m) → m * 2 ^ (c - 1) ≡ 0 → m ≡ 0
        go m (inl x) y = x
        go m (inr x) y = absurd (lt_irrefl 0 (subst (λ (n : ℕ). 0 < n) y (mul-pos x (pow_pos (c - 1)))))

    pub top_cut : (b * 2 ^ (c - 1) % 2 ^ 64 ≡ 0 → ⊥) → Top a b c (bit_or v 1)
    top_cut e =
        top_of (bit_or v 1) (subst (λ (n : ℕ). Near (a * 2 ^ 64 + b) (65 - c) (bit_or n 1)) (sym v_is) (near_cut (a * 2 ^ 64 + b) (65 - c) (subst (λ (n : ℕ). 0 < n) (sym w_mod) (go (b % 2 ^ (65 - c)) (eq-zero-or-pos (b % 2 ^ (65 - c))) (λ x. e (rest_is ∙ x))))))
      where
        go : (m : ℕ) → (m ≡ 0) ⊎ (0 < m) → (m * 2 ^ (c - 1) ≡ 0 → ⊥) → 0 < m
        go m (inl x) y = absurd (y (ap (λ (n : ℕ). n * 2 ^ (c - 1)) x ∙ zero-mul (2 ^ (c - 1))))
        go m (inr x) y = x
