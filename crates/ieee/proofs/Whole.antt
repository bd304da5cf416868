-- Whole numbers up to 2 ^ 53 as floats: their value, order, casts, sums and products. Assumes nothing.
use Rattle.std.proofs.Common.{◌≡◌, ℕ, ◌+◌, ◌-◌, ◌*◌, ◌/◌, ◌^◌, ◌<◌, ◌≤◌, min, Bool, true, false, not, T, ltb, pos, sym, refl, ap, ◌∙◌, true≢false, le_of_eq, lt_of_le_of_lt, mul-le-mul_right, mul_assoc, mul-lt-mul_of_pos_right, mul-one, mul_right_comm, le_of_mul-le-mul_right, arith, lit<, le→leb, ltb→lt, nltb→le, le-ltb, lt-ltb}
use lib.Arith.{digits_div}
use lib.Ieee.{Float, nan, inf, fin, binary64, up, down, fits, round, add, mul, of_int, in_float, to_unsigned, to_signed, lt, le}
use lib.Ieee.Fits.{down_pos, of_int-fits}
use lib.Ieee.Exact.{HasValue}
use lib.Ieee.Order.{round_mono}
use lib.Ieee.Back.{round_whole, unsigned_back, positive_back}
use lib.Ieee.Positive.{positive, positive_of_value}
use Rattle.ieee.specs.Casts.{ceil_unsigned, round_away}
use Rattle.ieee.specs.Numbers.{of_nat}
use Rattle.ieee.proofs.Unsigned.{unsigned, unsigned_of_value, add_at, mul_at}
use Rattle.ieee.proofs.Monotone.{up_div, up_div_le, le_up_div}

pub whole_fits : (n : ℕ) → T (fits binary64 (of_nat n))
whole_fits n = of_int-fits binary64 (pos n)

-- the order, for all whole numbers
pub whole_le : (a b : ℕ) → a ≤ b → T (le (of_nat a) (of_nat b))
unfolding of_int
whole_le a b h = round_mono binary64 a 1 b 1 one one (mul-le-mul_right 1 h)
  where
    one : 0 < 1
    one = omega arith

below : (n : ℕ) → n ≤ 2 ^ 53 → n < 2 ^ 63
below n h = lt_of_le_of_lt h (lit< tt)

below' : (n : ℕ) → n ≤ 2 ^ 53 → n < 2 ^ 64
below' n h = lt_of_le_of_lt h (lit< tt)

pub in_float_lem : (n : ℕ) → n ≤ 2 ^ 53 → T (in_float binary64 (pos n))
unfolding in_float
in_float_lem n h = le→leb n (2 ^ 53) h

-- ---- a float that is a whole number
to_ceil : (z : Float) (n : ℕ) → HasValue z false n 1 → n < 2 ^ 64 → ceil_unsigned 64 z ≡ n
unfolding ceil_unsigned
to_ceil nan n v h = absurd v
to_ceil (inf s) n v h = absurd v
to_ceil (fin true m e) n v h = absurd (true≢false v.0)
to_ceil (fin false m e) n v h = ap (λ (k : ℕ). min k (2 ^ 64 - 1)) (ap (λ (k : ℕ). up_div k (down e)) (sym (mul-one (m * up e)) ∙ v.1) ∙ exact n (down e) (down_pos e)) ∙ capped n (2 ^ 64) h
  where
    capped : (a c : ℕ) → a < c → min a (c - 1) ≡ a
    capped a c k = omega arith

    exact : (a d : ℕ) → 0 < d → up_div (a * d) d ≡ a
    exact a d D = meet (up_div_le (a * d) d a D (le_of_eq refl)) (le_of_mul-le-mul_right (le_up_div (a * d) d D) D)
      where
        meet : {i j : ℕ} → i ≤ j → j ≤ i → i ≡ j
        meet s t = omega arith

to_round : (z : Float) (n : ℕ) → HasValue z false n 1 → round_away binary64 z ≡ round binary64 false n 1
unfolding round_away
to_round nan n v = absurd v
to_round (inf s) n v = absurd v
to_round (fin true m e) n v = absurd (true≢false v.0)
to_round (fin false m e) n v =
    ap (λ (k : ℕ). round binary64 false k 1)
    (ap (λ (k : ℕ). (k * 2 + down e) / (down e * 2)) (sym (mul-one (m * up e)) ∙ v.1)
    ∙ ap (λ (k : ℕ). (k + down e) / (down e * 2)) (mul_assoc n (down e) 2)
    ∙ digits_div n (half (down e) (down_pos e)))
  where
    half : (d : ℕ) → 0 < d → d < d * 2
    half d h = omega arith

ltb_scale : (a b k : ℕ) → 0 < k → ltb (a * k) (b * k) ≡ ltb a b
ltb_scale a b k K = go (ltb a b) (ltb→lt a b) (nltb→le a b)
  where
    go : (t : Bool) → (T t → a < b) → (T (not t) → b ≤ a) → ltb (a * k) (b * k) ≡ t
    go true u v = lt-ltb (a * k) (b * k) (mul-lt-mul_of_pos_right (u tt) K)
    go false u v = le-ltb (a * k) (b * k) (mul-le-mul_right k (v tt))

to_lt : (x y : Float) (a b : ℕ) → HasValue x false a 1 → HasValue y false b 1 → lt x y ≡ ltb a b
unfolding lt
to_lt nan y a b v w = absurd v
to_lt (inf s) y a b v w = absurd v
to_lt (fin true m e) y a b v w = absurd (true≢false v.0)
to_lt (fin false m e) nan a b v w = absurd w
to_lt (fin false m e) (inf t) a b v w = absurd w
to_lt (fin false m e) (fin true n d) a b v w = absurd (true≢false w.0)
to_lt (fin false m e) (fin false n d) a b v w =
    ap (λ (k : ℕ). ltb (k * down d) (n * up d * down e)) (sym (mul-one (m * up e)) ∙ v.1)
    ∙ ap (λ (k : ℕ). ltb (a * down e * down d) (k * down e)) (sym (mul-one (n * up d)) ∙ w.1)
    ∙ ap (λ (k : ℕ). ltb k (b * down d * down e)) (mul_right_comm a (down e) (down d))
    ∙ ap (λ (k : ℕ). ltb (a * down d * down e) k) refl
    ∙ ltb_scale (a * down d) (b * down d) (down e) (down_pos e)
    ∙ ltb_scale a b (down d) (down_pos d)

-- ---- a whole number n up to 2 ^ 53
module _ (n : ℕ) (h : n ≤ 2 ^ 53) where
  pub whole_value : HasValue (of_nat n) false n 1
  unfolding of_int
  whole_value = round_whole binary64 false n h

  pub whole_unsigned : T (unsigned (of_nat n))
  whole_unsigned = unsigned_of_value (of_nat n) n 1 whole_value

  pub whole_positive : 0 < n → T (positive (of_nat n))
  whole_positive k = positive_of_value (of_nat n) n 1 whole_value k

  pub cut_whole : to_unsigned 64 (of_nat n) ≡ n
  cut_whole = (unsigned_back binary64 64 n (in_float_lem n h) (below' n h)).1

  pub signed_whole : to_signed 63 (of_nat n) ≡ pos n
  signed_whole = (positive_back binary64 63 n (in_float_lem n h) (below n h)).1

  pub ceil_whole : ceil_unsigned 64 (of_nat n) ≡ n
  ceil_whole = to_ceil (of_nat n) n whole_value (below' n h)

  pub round_of_whole : round_away binary64 (of_nat n) ≡ of_nat n
  unfolding of_int
  round_of_whole = to_round (of_nat n) n whole_value

-- ---- two of them
module _ (a b : ℕ) (h : a ≤ 2 ^ 53) (k : b ≤ 2 ^ 53) where
  pub whole_lt : lt (of_nat a) (of_nat b) ≡ ltb a b
  whole_lt = to_lt (of_nat a) (of_nat b) a b (whole_value a h) (whole_value b k)

  one : 0 < 1
  one = omega arith

  pub whole_add : add binary64 (of_nat a) (of_nat b) ≡ of_nat (a + b)
  unfolding of_int
  whole_add = add_at binary64 (of_nat a) (of_nat b) a 1 b 1 one one (whole_value a h) (whole_value b k) ∙ ap (λ (z : ℕ). round binary64 false z 1) (plain a b)
    where
      plain : (i j : ℕ) → i * 1 + j * 1 ≡ i + j
      plain i j = omega arith

  pub whole_mul : mul binary64 (of_nat a) (of_nat b) ≡ of_nat (a * b)
  unfolding of_int
  whole_mul = mul_at binary64 (of_nat a) (of_nat b) a 1 b 1 one one (whole_value a h) (whole_value b k)
