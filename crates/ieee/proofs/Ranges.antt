-- A range of whole numbers goes through each float step: sum, difference, a product with a small factor. Assumes nothing.
use Rattle.std.proofs.Common.{◌≡◌, ℕ, zero, suc, ◌+◌, ◌-◌, ◌*◌, ◌^◌, ◌<◌, ◌≤◌, Bool, true, false, cond, T, eqb, ltb, ℤ, pos, sym, refl, ap, ◌∙◌, subst, le_trans, le_of_eq, mul-le-mul_right, mul_assoc, mul_comm, add-mul, mul-le-mul, mul-pos, mul-one, mul_right_comm, le_of_mul-le-mul_right, mul_left_comm, arith, lit<, eqb→eq, ltb→lt, lt→ltb, le-ltb}
use lib.Ieee.{Float, nan, inf, fin, Format, binary64, prec, emax, low, up, down, odd, units, round, neg, sum, add, sub, mul, div, lt, le, of_int}
use lib.Ieee.Fits.{down_pos, round_is}
use lib.Ieee.Order.{le_of_values, round_mono, kept, drop}
use lib.Ieee.Positive.{num, den, den_pos, positive}
use Rattle.ieee.specs.Numbers.{of_nat}
use Rattle.ieee.proofs.Whole.{whole_value, whole_unsigned}
use Rattle.ieee.proofs.Unsigned.{unsigned, own_value, values_of_le, bounded, add_is, mul_is}
use Rattle.ieee.proofs.Magnitudes.{Under}

-- a number from lo to hi
pub record In (lo hi : ℕ) (x : Float) : Type 0 where
  pub unsigned : T (unsigned x)
  pub least : lo * den x ≤ num x
  pub most : num x ≤ hi * den x

pub wider : (a b c d : ℕ) (x : Float) → c ≤ a → b ≤ d → In a b x → In c d x
wider a b c d x p q i =
    record { unsigned = i.unsigned; least = le_trans (mul-le-mul_right (den x) p) i.least; most = le_trans i.most (mul-le-mul_right (den x) q) }

-- ---- as comparisons

module _ (lo hi : ℕ) (x : Float) (h : hi ≤ 2 ^ 53) where
  pub in_below : In lo hi x → T (le x (of_nat hi))
  in_below i = le_of_values x (of_nat hi) (num x) (den x) hi 1 (den_pos x) (lit< tt) (own_value x i.unsigned) (whole_value hi h) (le_trans (le_of_eq (mul-one (num x))) i.most)

  pub in_above : In lo hi x → T (le (of_nat lo) x)
  in_above i =
      le_of_values (of_nat lo) x lo 1 (num x) (den x) (lit< tt) (den_pos x) (whole_value lo small) (own_value x i.unsigned) (le_trans i.least (le_of_eq (sym (mul-one (num x)))))
    where
      small : lo ≤ 2 ^ 53
      small = le_trans (le_of_mul-le-mul_right (le_trans i.least i.most) (den_pos x)) h

  pub in_tested : T (unsigned x) → lo ≤ 2 ^ 53 → T (le (of_nat lo) x) → T (le x (of_nat hi)) → In lo hi x
  in_tested u l a b =
      record {
        unsigned = u;
        least = le_trans (values_of_le (of_nat lo) x lo 1 (num x) (den x) (whole_unsigned lo l) u (whole_value lo l) (own_value x u) a) (le_of_eq (mul-one (num x)));
        most = le_trans (le_of_eq (sym (mul-one (num x)))) (values_of_le x (of_nat hi) (num x) (den x) hi 1 u (whole_unsigned hi h) (own_value x u) (whole_value hi h) b);
      }

-- above zero, below infinity, and at most 2 ^ k
pub in_positive : (lo hi : ℕ) (x : Float) → 0 < lo → In lo hi x → T (lt (fin false 0 (pos 0)) x)
unfolding lt
in_positive lo hi nan h i = absurd i.unsigned
in_positive lo hi (inf s) h i = absurd i.unsigned
in_positive lo hi (fin true m e) h i = absurd i.unsigned
in_positive lo hi (fin false m e) h i = lt→ltb (0 * 1 * down e) (m * up e * 1) (go (down e) (m * up e) (le_trans (mul-pos h (down_pos e)) i.least))
  where
    go : (d a : ℕ) → 0 < a → 0 * 1 * d < a * 1
    go d a h = omega arith

pub in_finite : (lo hi : ℕ) (x : Float) → In lo hi x → T (lt x (inf false))
unfolding lt
in_finite lo hi nan i = absurd i.unsigned
in_finite lo hi (inf s) i = absurd i.unsigned
in_finite lo hi (fin s m e) i = tt

pub in_under : (lo hi k : ℕ) (x : Float) → hi ≤ 2 ^ k → In lo hi x → Under k x
in_under lo hi k nan h i = absurd i.unsigned
in_under lo hi k (inf s) h i = absurd i.unsigned
in_under lo hi k (fin s m e) h i = le_trans i.most (mul-le-mul_right (down e) h)

-- ---- rounding

pub round_in : (lo hi a c : ℕ) → 0 < c → lo * c ≤ a → a ≤ hi * c → hi ≤ 2 ^ 53 → In lo hi (round binary64 false a c)
unfolding of_int
round_in lo hi a c C p q h =
    let x = round binary64 false a c in
    let l : lo ≤ 2 ^ 53 = le_trans (le_of_mul-le-mul_right (le_trans p q) C) h in
    let below : T (le x (of_nat hi)) = round_mono binary64 a c hi 1 C (lit< tt) (le_trans (le_of_eq (mul-one a)) q) in
    let above : T (le (of_nat lo) x) = round_mono binary64 lo 1 a c (lit< tt) C (le_trans p (le_of_eq (sym (mul-one a)))) in
    in_tested lo hi x h (bounded binary64 a c x (of_nat hi) refl (whole_unsigned hi h) below) l above below

-- ---- signs

odd_neg : (d : ℕ) (q k l : ℕ) → odd d true q k l ≡ neg (odd d false q k l)
unfolding odd neg
odd_neg d zero k l = refl
odd_neg d (suc q) k l = refl

units_neg : (f : Format) (q k : ℕ) → units f true q k ≡ neg (units f false q k)
unfolding units neg
units_neg f q k = go (ltb (q * 2 ^ k) (2 ^ (low f + suc (emax f))))
  where
    go : (b : Bool) → cond b (odd (suc (prec f)) true q k (low f)) (inf true) ≡ neg (cond b (odd (suc (prec f)) false q k (low f)) (inf false))
    go true = odd_neg (suc (prec f)) q k (low f)
    go false = refl

pub round_neg : (f : Format) (a c : ℕ) → round f true a c ≡ neg (round f false a c)
round_neg f a c =
    round_is f true a c ∙ units_neg f (kept (prec f) (a * 2 ^ low f) c) (drop (prec f) (a * 2 ^ low f) c) ∙ ap neg (sym (round_is f false a c))

pub div_neg : (m : ℕ) (e : ℤ) (y : Float) → T (positive y) → div binary64 (fin true m e) y ≡ neg (div binary64 (fin false m e) y)
unfolding div
div_neg m e nan p = absurd p
div_neg m e (inf t) p = absurd p
div_neg m e (fin true n d) p = absurd p
div_neg m e (fin false n d) p = go (eqb n 0) (λ t. none n (ltb→lt 0 n p) (eqb→eq n 0 t))
  where
    none : (n : ℕ) → 0 < n → n ≡ 0 → ⊥
    none n h e = omega arith

    go : (b : Bool) → (T b → ⊥)
        → cond b (cond (eqb m 0) nan (inf true)) (round binary64 true (m * up e * down d) (n * up d * down e))
        ≡ neg (cond b (cond (eqb m 0) nan (inf false)) (round binary64 false (m * up e * down d) (n * up d * down e)))
    go true h = absurd (h tt)
    go false h = round_neg binary64 (m * up e * down d) (n * up d * down e)

pub mul_neg : (x y : Float) → T (unsigned x) → T (unsigned y) → mul binary64 (neg x) y ≡ neg (mul binary64 x y)
unfolding mul neg
mul_neg nan y p q = absurd p
mul_neg (inf s) y p q = absurd p
mul_neg (fin true m e) y p q = absurd p
mul_neg (fin false m e) nan p q = absurd q
mul_neg (fin false m e) (inf t) p q = absurd q
mul_neg (fin false m e) (fin true n d) p q = absurd q
mul_neg (fin false m e) (fin false n d) p q = round_neg binary64 (m * up e * (n * up d)) (down e * down d)

-- a number less one that is not above it
pub sub_is : (x y : Float) → T (unsigned x) → T (unsigned y) → num y * den x ≤ num x * den y → sub binary64 x y ≡ round binary64 false (num x * den y - num y * den x) (den x * den y)
unfolding sub add sum neg
sub_is nan y p q h = absurd p
sub_is (inf s) y p q h = absurd p
sub_is (fin true m e) y p q h = absurd p
sub_is (fin false m e) nan p q h = absurd q
sub_is (fin false m e) (inf t) p q h = absurd q
sub_is (fin false m e) (fin true n d) p q h = absurd q
sub_is (fin false m e) (fin false n d) p q h = rw (le-ltb (m * up e * down d) (n * up d * down e) h)

-- ---- the operations

module _ (a b s : ℕ) (r p : Float) (R : In a b r) (P : In 0 s p) (h : b + s ≤ 2 ^ 53) where
  C : 0 < den r * den p
  C = mul-pos (den_pos r) (den_pos p)

  -- the fractions over one denominator
  low_r : a * (den r * den p) ≤ num r * den p
  low_r = le_trans (le_of_eq (sym (mul_assoc a (den r) (den p)))) (mul-le-mul_right (den p) R.least)

  high_r : num r * den p ≤ b * (den r * den p)
  high_r = le_trans (mul-le-mul_right (den p) R.most) (le_of_eq (mul_assoc b (den r) (den p)))

  high_p : num p * den r ≤ s * (den r * den p)
  high_p = le_trans (mul-le-mul_right (den r) P.most) (le_of_eq (mul_assoc s (den p) (den r) ∙ ap (λ (z : ℕ). s * z) (mul_comm (den p) (den r))))

  pub add_in : In a (b + s) (add binary64 r p)
  add_in =
      subst (In a (b + s)) (sym (add_is binary64 r p R.unsigned P.unsigned))
      (round_in a (b + s) (num r * den p + num p * den r) (den r * den p) C
      (more (num r * den p) (num p * den r) (a * (den r * den p)) low_r)
      (le_trans (both (num r * den p) (num p * den r) (b * (den r * den p)) (s * (den r * den p)) high_r high_p) (le_of_eq (sym (add-mul b s (den r * den p))))) h)
    where
      more : (x y z : ℕ) → z ≤ x → z ≤ x + y
      more x y z h = omega arith

      both : (x y u v : ℕ) → x ≤ u → y ≤ v → x + y ≤ u + v
      both x y u v g h = omega arith

  pub sub_in : s ≤ a → In (a - s) b (sub binary64 r p)
  sub_in k =
      let over : num p * den r ≤ num r * den p = le_trans high_p (le_trans (mul-le-mul_right (den r * den p) k) low_r) in
      subst (In (a - s) b) (sym (sub_is r p R.unsigned P.unsigned over))
      (round_in (a - s) b (num r * den p - num p * den r) (den r * den p) C
      (apart a s (den r * den p) (num r * den p) (num p * den r) k low_r high_p)
      (less (num r * den p) (num p * den r) (b * (den r * den p)) high_r) (lesser b s h))
    where
      back : (a s : ℕ) → s ≤ a → a - s + s ≡ a
      back a s k = omega arith

      apart : (a s d x y : ℕ) → s ≤ a → a * d ≤ x → y ≤ s * d → (a - s) * d ≤ x - y
      apart a s d x y k g h = let e : (a - s) * d + s * d ≡ a * d = sym (add-mul (a - s) s d) ∙ ap (λ (z : ℕ). z * d) (back a s k) in omega arith

      less : (x y z : ℕ) → x ≤ z → x - y ≤ z
      less x y z h = omega arith

      lesser : (b s : ℕ) → b + s ≤ 2 ^ 53 → b ≤ 2 ^ 53
      lesser b s h = omega arith

-- a number times one of at most 1 / n
pub part_in : (n a b s : ℕ) (u r : Float) → 0 < n → T (unsigned u) → num u * n ≤ den u → In a b r → b ≤ n * s → s ≤ 2 ^ 53 → In 0 s (mul binary64 u r)
part_in n a b s u r N p h R k m =
    subst (In 0 s) (sym (mul_is binary64 u r p R.unsigned))
    (round_in 0 s (num u * num r) (den u * den r) (mul-pos (den_pos u) (den_pos r)) (none (den u * den r) (num u * num r))
    (le_of_mul-le-mul_right (le_trans (le_of_eq (mul_right_comm (num u) (num r) n)) (le_trans (mul-le-mul h (le_trans R.most (mul-le-mul_right (den r) k))) (le_of_eq (last (den u) s (den r) n)))) N) m)
  where
    none : (d x : ℕ) → 0 * d ≤ x
    none d x = omega arith

    last : (d s e n : ℕ) → d * (n * s * e) ≡ s * (d * e) * n
    last d s e n = simp (mul_assoc, mul_comm, mul_left_comm)
