-- How large the result of a float step can be: a bound of 2 ^ k goes through each. Assumes nothing.
use Rattle.std.proofs.Common.{◌≡◌, ℕ, zero, suc, ◌+◌, ◌-◌, ◌*◌, ◌/◌, ◌^◌, ◌<◌, ◌≤◌, min, Bool, true, false, cond, ◌&&◌, T, ltb, leb, pos, neg_ℤ, nat_abs, sym, refl, ap, ◌∙◌, subst, zero-le, le_trans, le_of_eq, le_refl, mul-le-mul_right, mul_assoc, mul_comm, mul-le-mul, mul-le-mul_left, mul-pos, one-mul, mul-one, le_of_mul-le-mul_right, mul_left_comm, arith, leb→le, pow_pos, pow_mono, pow-add}
use mathlib.Core.Bool.{beq}
use native.Mathlib.Nat.{div-le_of_le-mul}
use lib.Pow.{pow-lt}
use lib.Ieee.{Float, nan, inf, fin, Format, binary64, prec, emax, low, up, down, unlike, round, neg, sum, add, sub, mul, div, lt, le, is_nan, of_int, to_unsigned, to_signed}
use lib.Ieee.Exact.{HasValue, units_val, round_exact}
use lib.Ieee.Fits.{two, down_pos, round_is}
use lib.Ieee.Order.{round_mono, kept, drop}
use lib.Ieee.Scale.{grid, overflow, round_val}
use lib.Ieee.Scale as Scale
use Rattle.ieee.specs.Numbers.{of_nat}
use Rattle.ieee.specs.Casts.{round_away, maximum}
use Rattle.ieee.proofs.Unsigned.{unsigned, unsigned_of_value, unsigned_finite, values_of_le, bounded}

-- finite, and at most 2 ^ k in size
abbrev pub Under : ℕ → Float → Type 0
Under k nan = ⊥
Under k (inf s) = ⊥
Under k (fin s m e) = m * up e ≤ 2 ^ k * down e

-- the same as a test
abbrev pub is_under : ℕ → Float → Bool
is_under k nan = false
is_under k (inf s) = false
is_under k (fin s m e) = leb (m * up e) (2 ^ k * down e)

pub under_tested : (k : ℕ) (x : Float) → T (is_under k x) → Under k x
under_tested k nan t = absurd t
under_tested k (inf s) t = absurd t
under_tested k (fin s m e) t = leb→le (m * up e) (2 ^ k * down e) t

pub weaker : (j k : ℕ) (x : Float) → j ≤ k → Under j x → Under k x
weaker j k nan h u = absurd u
weaker j k (inf s) h u = absurd u
weaker j k (fin s m e) h u = le_trans u (mul-le-mul_right (down e) (pow_mono h))

-- ---- rounding

under_of_value : (x : Float) (s : Bool) (g l k : ℕ) → 0 < l → HasValue x s g l → g * 1 ≤ 2 ^ k * l → Under k x
under_of_value nan s g l k L v h = absurd v
under_of_value (inf t) s g l k L v h = absurd v
under_of_value (fin t m e) s g l k L v h =
    let a : m * up e * l ≡ g * 1 * down e = v.1 ∙ ap (λ (z : ℕ). z * down e) (sym (mul-one g)) in
    let b : 2 ^ k * l * down e ≡ 2 ^ k * down e * l = simp (mul_assoc, mul_comm, mul_left_comm) in
    le_of_mul-le-mul_right (le_trans (le_of_eq a) (le_trans (mul-le-mul_right (down e) h) (le_of_eq b))) L

exactly : (k l : ℕ) → 2 ^ k * 2 ^ l ≡ 1 * 2 ^ (k + l) * 1
exactly k l = sym (mul-one (1 * 2 ^ (k + l)) ∙ one-mul (2 ^ (k + l)) ∙ pow-add 2 k l)

in_range : (k l e : ℕ) → k < e → 1 * 2 ^ (k + l) < 2 ^ (l + e)
in_range k l e h = rw one-mul (pow-lt (less k l e h))
  where
    less : (k l e : ℕ) → k < e → k + l < l + e
    less k l e h = omega arith

power_value : (f : Format) (k : ℕ) → k < suc (emax f) → HasValue (round f false (2 ^ k) 1) false (2 ^ k) 1
power_value f k h = round_exact f false (2 ^ k) 1 1 (k + low f) (one_pos) (digit f) (in_range k (low f) (suc (emax f)) h) (exactly k (low f))
  where
    one_pos : 0 < 1
    one_pos = omega arith

    one_two : 1 ≤ 2
    one_two = omega arith

    digit : (f : Format) → 1 < 2 ^ prec f
    digit f = pow-lt {i = 0} (le_trans one_two (two f))

-- a fraction of at most 2 ^ k, rounded
pub round_under : (f : Format) (s : Bool) (a c k : ℕ) → 0 < c → k < suc (emax f) → a ≤ 2 ^ k * c → Under k (round f s a c)
round_under f s a c k C h b =
    let x = round f false a c in
    let y = round f false (2 ^ k) 1 in
    let yv : HasValue y false (2 ^ k) 1 = power_value f k h in
    let yu : T (unsigned y) = unsigned_of_value y (2 ^ k) 1 yv in
    let xy : T (le x y) = round_mono f a c (2 ^ k) 1 C (omega arith) (le_trans (le_of_eq (mul-one a)) b) in
    let xu : T (unsigned x) = bounded f a c x y refl yu xy in
    let g : grid f a c < overflow f = Scale.round_under f a c (unsigned_finite x xu) in
    let sm : grid f a c * 1 ≤ 2 ^ k * 2 ^ low f = values_of_le x y (grid f a c) (2 ^ low f) (2 ^ k) 1 xu yu (round_val f a c g) yv xy in
    let sv : HasValue (round f s a c) s (grid f a c) (2 ^ low f) =
    subst (λ (z : Float). HasValue z s (grid f a c) (2 ^ low f)) (sym (round_is f s a c)) (units_val f s (kept (prec f) (a * 2 ^ low f) c) (drop (prec f) (a * 2 ^ low f) c) g) in
    under_of_value (round f s a c) s (grid f a c) (2 ^ low f) k (pow_pos (low f)) sv sm

-- ---- the operations

scaled : (a p d c : ℕ) → a ≤ p * d → a * c ≤ p * (d * c)
scaled a p d c h = le_trans (mul-le-mul_right c h) (le_of_eq (mul_assoc p d c))

twice : (k c : ℕ) → 2 ^ (k + 1) * c ≡ 2 ^ k * c + 2 ^ k * c
twice k c = rw (pow-add 2 k 1) (two_of (2 ^ k) c)
  where
    two_of : (p c : ℕ) → p * 2 * c ≡ p * c + p * c
    two_of p c = let e : p * 2 * c ≡ 2 * (p * c) = simp (mul_assoc, mul_comm) in omega arith

pub add_under : (k : ℕ) (x y : Float) → k + 1 < 1024 → Under k x → Under k y → Under (k + 1) (add binary64 x y)
unfolding add sum
add_under k nan y r u v = absurd u
add_under k (inf s) y r u v = absurd u
add_under k (fin s m e) nan r u v = absurd v
add_under k (fin s m e) (inf t) r u v = absurd v
add_under k (fin s m e) (fin t n d) r u v =
    go (beq s t) (ltb (m * up e * down d) (n * up d * down e)) (s && ltb (n * up d * down e) (m * up e * down d))
  where
    C : 0 < down e * down d
    C = mul-pos (down_pos e) (down_pos d)

    a : m * up e * down d ≤ 2 ^ k * (down e * down d)
    a = scaled (m * up e) (2 ^ k) (down e) (down d) u

    b : n * up d * down e ≤ 2 ^ k * (down e * down d)
    b = le_trans (scaled (n * up d) (2 ^ k) (down d) (down e) v) (le_of_eq (ap (λ (z : ℕ). 2 ^ k * z) (mul_comm (down d) (down e))))

    both : (i a b p : ℕ) → i ≤ a + b → a ≤ p → b ≤ p → i ≤ p + p
    both i a b p h u v = omega arith

    fits : (i : ℕ) → i ≤ m * up e * down d + n * up d * down e → i ≤ 2 ^ (k + 1) * (down e * down d)
    fits i h = rw (twice k (down e * down d)) (both i (m * up e * down d) (n * up d * down e) (2 ^ k * (down e * down d)) h a b)

    left : (a b : ℕ) → a - b ≤ a + b
    left a b = omega arith

    right : (a b : ℕ) → b - a ≤ a + b
    right a b = omega arith

    go : (p q w : Bool)
        → Under (k + 1) (cond p (round binary64 s (m * up e * down d + n * up d * down e) (down e * down d))
        (cond q (round binary64 t (n * up d * down e - m * up e * down d) (down e * down d)) (round binary64 w (m * up e * down d - n * up d * down e) (down e * down d))))
    go true q w = round_under binary64 s (m * up e * down d + n * up d * down e) (down e * down d) (k + 1) C r (fits _ (le_refl _))
    go false true w = round_under binary64 t (n * up d * down e - m * up e * down d) (down e * down d) (k + 1) C r (fits _ (right (m * up e * down d) (n * up d * down e)))
    go false false w = round_under binary64 w (m * up e * down d - n * up d * down e) (down e * down d) (k + 1) C r (fits _ (left (m * up e * down d) (n * up d * down e)))

neg_under : (k : ℕ) (x : Float) → Under k x → Under k (neg x)
unfolding neg
neg_under k nan u = u
neg_under k (inf s) u = u
neg_under k (fin s m e) u = u

pub sub_under : (k : ℕ) (x y : Float) → k + 1 < 1024 → Under k x → Under k y → Under (k + 1) (sub binary64 x y)
unfolding sub
sub_under k x y r u v = add_under k x (neg y) r u (neg_under k y v)

pub mul_under : (j k : ℕ) (x y : Float) → j + k < 1024 → Under j x → Under k y → Under (j + k) (mul binary64 x y)
unfolding mul
mul_under j k nan y r u v = absurd u
mul_under j k (inf s) y r u v = absurd u
mul_under j k (fin s m e) nan r u v = absurd v
mul_under j k (fin s m e) (inf t) r u v = absurd v
mul_under j k (fin s m e) (fin t n d) r u v =
    round_under binary64 (unlike s t) (m * up e * (n * up d)) (down e * down d) (j + k) (mul-pos (down_pos e) (down_pos d)) r
    (le_trans (mul-le-mul u v) (le_of_eq (regroup (2 ^ j) (down e) (2 ^ k) (down d) ∙ ap (λ (z : ℕ). z * (down e * down d)) (sym (pow-add 2 j k)))))
  where
    regroup : (a b c d : ℕ) → a * b * (c * d) ≡ a * c * (b * d)
    regroup a b c d = simp (mul_assoc, mul_left_comm)

-- divided by 700
pub part_under : (k : ℕ) (x : Float) → k < 1024 → Under k x → Under k (div binary64 x (fin false 175 (pos 2)))
unfolding div
part_under k nan r u = absurd u
part_under k (inf s) r u = absurd u
part_under k (fin s m e) r u =
    round_under binary64 (unlike s false) (m * up e * 1) (700 * down e) k (positive (down e) (down_pos e)) r
    (le_trans (le_of_eq (mul-one (m * up e))) (le_trans u (mul-le-mul_left (2 ^ k) (more (down e)))))
  where
    positive : (d : ℕ) → 0 < d → 0 < 700 * d
    positive d h = omega arith

    more : (d : ℕ) → d ≤ 700 * d
    more d = omega arith

pub whole_under : (n k : ℕ) → k < 1024 → n ≤ 2 ^ k → Under k (of_nat n)
unfolding of_int
whole_under n k r h = round_under binary64 false n 1 k (omega arith) r (le_trans h (le_of_eq (sym (mul-one (2 ^ k)))))

pub away_under : (k : ℕ) (x : Float) → k + 1 < 1024 → Under k x → Under (k + 1) (round_away binary64 x)
unfolding round_away
away_under k nan r u = absurd u
away_under k (inf s) r u = absurd u
away_under k (fin s m e) r u =
    round_under binary64 s ((m * up e * 2 + down e) / (down e * 2)) 1 (k + 1) (omega arith) r
    (le_trans (div-le_of_le-mul (down e * 2) half) (le_of_eq (sym (mul-one (2 ^ (k + 1))))))
  where
    four : (d p : ℕ) → d * 2 * (p * 2) ≡ 4 * (p * d)
    four d p = let e : d * 2 * (p * 2) ≡ 2 * (2 * (p * d)) = simp (mul_assoc, mul_comm, mul_left_comm) in omega arith

    least : (d p : ℕ) → 0 < p → d ≤ p * d
    least d p h = le_trans (le_of_eq (sym (one-mul d))) (mul-le-mul_right d h)

    sums : (a d z : ℕ) → a ≤ z → d ≤ z → a * 2 + d ≤ 4 * z
    sums a d z h i = omega arith

    half : m * up e * 2 + down e ≤ down e * 2 * 2 ^ (k + 1)
    half =
        le_trans (sums (m * up e) (down e) (2 ^ k * down e) u (least (down e) (2 ^ k) (pow_pos k)))
        (le_of_eq (sym (four (down e) (2 ^ k)) ∙ ap (λ (z : ℕ). down e * 2 * z) (sym (pow-add 2 k 1))))

pub held_under : (k : ℕ) (x : Float) → Under k x → Under k (maximum x (fin false 0 (pos 0)))
unfolding maximum is_nan
held_under k nan u = absurd u
held_under k (inf s) u = absurd u
held_under k (fin s m e) u = go (lt (fin s m e) (fin false 0 (pos 0)))
  where
    go : (b : Bool) → Under k (cond b (fin false 0 (pos 0)) (fin s m e))
    go true = zero-le
    go false = u

smaller : (a b : ℕ) → min a b ≤ a
smaller a b = omega arith

pub cut_under : (k : ℕ) (x : Float) → Under k x → to_unsigned 64 x ≤ 2 ^ k
unfolding to_unsigned
cut_under k nan u = absurd u
cut_under k (inf s) u = absurd u
cut_under k (fin true m e) u = zero-le
cut_under k (fin false m e) u =
    le_trans (smaller (m * up e / down e) (2 ^ 64 - 1)) (div-le_of_le-mul (down e) (le_trans u (le_of_eq (mul_comm (2 ^ k) (down e)))))

pub signed_under : (k : ℕ) (x : Float) → Under k x → nat_abs (to_signed 63 x) ≤ 2 ^ k
unfolding to_signed
signed_under k nan u = absurd u
signed_under k (inf s) u = absurd u
signed_under k (fin s m e) u = go s
  where
    size : (n : ℕ) → nat_abs (neg_ℤ (pos n)) ≤ n
    size zero = zero-le
    size (suc n) = le_refl (suc n)

    whole : m * up e / down e ≤ 2 ^ k
    whole = div-le_of_le-mul (down e) (le_trans u (le_of_eq (mul_comm (2 ^ k) (down e))))

    go : (s : Bool) → nat_abs (to_signed 63 (fin s m e)) ≤ 2 ^ k
    go true = le_trans (size (min (m * up e / down e) (2 ^ 63))) (le_trans (smaller (m * up e / down e) (2 ^ 63)) whole)
    go false = le_trans (smaller (m * up e / down e) (2 ^ 63 - 1)) whole
