-- Bit patterns, for either format. A pattern's fields and the value that they stand for (`fields_val`, `read`), and `round` as bits:
-- the bits of `round f s num den` are the sign, k times the weight of the exponent's field, and the kept number, where k is how many digits are dropped (`written`).
-- A kept number that rounding has carried up to 2 ^ prec carries into the exponent's field, up to the pattern of an infinity. Assumes nothing.
use Rattle.std.proofs.Common.{◌≡◌, ℕ, zero, suc, ◌+◌, ◌-◌, ◌*◌, ◌/◌, ◌%◌, ◌^◌, ◌<◌, ◌≤◌, Bool, true, false, cond, not, T, eqb, ltb, leb, ◌⊎◌, pos, sym, refl, ap, ◌∙◌, subst, inl, inr, le_trans, le_of_eq, lt_of_lt_of_le, le-add_right, lt_of_le_of_lt, lt_irrefl, mul-le-mul_right, mod-eq_of_lt, mul_assoc, suc-mul, mul_comm, div-lt_iff_lt-mul, add-sub_of_le, eq-zero-or-pos, eq-or-lt_of_le, mul-lt-mul_of_pos_right, mul-pos, one-mul, lt_of_not-le, le-div_iff_mul-le, zero-add, mul-one, not-le_of_lt, arith, le→leb, eqb→eq, ltb→lt, lt→ltb, nltb→le, pow_pos, pow_mono, pow-add, shl_lt}
use Prim.Native.Nat.{compare}
use native.Mathlib.Nat.{add-mod_left, mul-add-mod_self_left, div-div-eq-div-mul, pow-succ'}
use lib.Dec.{not_T}
use lib.Arith.{digits_lt, digits_div, digits_mod, lt→nleb, le→nltb}
use lib.Ieee.{Float, nan, inf, fin, Format, prec, emax, low, size, odd, units, round, is_nan, hid, ones, top, of_fields, of_bits}
use lib.Ieee.Digits.{size-lt, size-le, size_reaches}
use lib.Ieee.Fits.{two, reach, odd-fits, eq→eqb, nearest-le, round_is}
use lib.Ieee.Bits.{is_true, is_false, cond_no, of_bits-fits}
use lib.Ieee.Exact.{HasValue, odd_sign}
use lib.Ieee.Nearest.{closest, closest_same, nearest-ge}
use Rattle.ieee.specs.Patterns.{lead, expo}
use Rattle.ieee.proofs.Unique.{unique}
use Rattle.ieee.proofs.Closest.{compare_lt}

pub cond_yes : {X : Type 0} (b : Bool) (x y : X) → T b → cond b x y ≡ x
cond_yes true x y t = refl
cond_yes false x y t = absurd t

-- ---- a pattern made of three fields is read as those fields

pub of_bits_is : (f : Format) (b : ℕ) → of_bits f b ≡ of_fields f (leb (top f) b) (b % top f / hid f) (b % hid f)
unfolding of_bits
of_bits_is f b = refl

same : (f : Format) {s s' : Bool} {x x' t t' : ℕ} → s ≡ s' → x ≡ x' → t ≡ t' → of_fields f s x t ≡ of_fields f s' x' t'
same f p q r = cc

small : (f : Format) (x t : ℕ) → x < suc (ones f) → t < hid f → x * hid f + t < top f
small f x t X H = subst (λ (a : ℕ). x * hid f + t < a) (mul_comm (suc (ones f)) (hid f)) (digits_lt X H)

pub fields : (f : Format) (s : Bool) (x t : ℕ) → x < suc (ones f) → t < hid f → of_bits f (cond s (top f) 0 + (x * hid f + t)) ≡ of_fields f s x t
fields f s x t X H = go s
  where
    go : (s : Bool) → of_bits f (cond s (top f) 0 + (x * hid f + t)) ≡ of_fields f s x t
    go true =
        of_bits_is f (top f + (x * hid f + t))
        ∙ same f (is_true (leb (top f) (top f + (x * hid f + t))) (le→leb (top f) (top f + (x * hid f + t)) (le-add_right (top f) (x * hid f + t))))
        (ap (λ (a : ℕ). a / hid f) (add-mod_left (top f) (x * hid f + t) ∙ mod-eq_of_lt (small f x t X H)) ∙ digits_div x H)
        (mul-add-mod_self_left (hid f) (suc (ones f)) (x * hid f + t) ∙ digits_mod x H)
    go false =
        ap (λ (a : ℕ). of_bits f a) (zero-add (x * hid f + t))
        ∙ of_bits_is f (x * hid f + t)
        ∙ same f (is_false (leb (top f) (x * hid f + t)) (lt→nleb (top f) (x * hid f + t) (small f x t X H)))
        (ap (λ (a : ℕ). a / hid f) (mod-eq_of_lt (small f x t X H)) ∙ digits_div x H)
        (digits_mod x H)

-- ---- the value that the fields stand for: `lead` * 2 ^ `expo` of the format's smallest values

lt→neqb : (a b : ℕ) → a < b → T (not (eqb a b))
lt→neqb a b h = not_T (eqb a b) (λ t. lt_irrefl b (subst (λ (x : ℕ). x < b) (eqb→eq a b t) h))

pub fields_val : (f : Format) (s : Bool) (x t : ℕ) → x < ones f → HasValue (of_fields f s x t) s (lead f x t * 2 ^ expo x) (2 ^ low f)
unfolding of_fields
fields_val f s zero t h = odd_sign (prec f) s t 0 (low f)
fields_val f s (suc x) t h =
    subst (λ (v : Float). HasValue v s ((hid f + t) * 2 ^ x) (2 ^ low f)) (sym (cond_no (eqb (suc x) (ones f)) (cond (eqb t 0) (inf s) nan) (odd (prec f) s (hid f + t) x (low f)) (lt→neqb (suc x) (ones f) h)))
    (odd_sign (prec f) s (hid f + t) x (low f))

not_ones : (e : ℕ) → 0 ≡ 2 * e + 1 → ⊥
not_ones e h = omega arith

-- the highest field: an infinity, or a NaN
pub fields_top : (f : Format) (s : Bool) (x t : ℕ) → x ≡ ones f → of_fields f s x t ≡ cond (eqb t 0) (inf s) nan
unfolding of_fields
fields_top f s zero t h = absurd (not_ones (emax f) h)
fields_top f s (suc x) t h = cond_yes (eqb (suc x) (ones f)) (cond (eqb t 0) (inf s) nan) (odd (prec f) s (hid f + t) x (low f)) (eq→eqb h)

-- ---- `units`

pub units_finite : (f : Format) (s : Bool) (q k : ℕ) → q * 2 ^ k < 2 ^ (low f + suc (emax f)) → units f s q k ≡ odd (suc (prec f)) s q k (low f)
unfolding units
units_finite f s q k h = cond_yes (ltb (q * 2 ^ k) (2 ^ (low f + suc (emax f)))) (odd (suc (prec f)) s q k (low f)) (inf s) (lt→ltb (q * 2 ^ k) (2 ^ (low f + suc (emax f))) h)

pub units_inf : (f : Format) (s : Bool) (q k : ℕ) → 2 ^ (low f + suc (emax f)) ≤ q * 2 ^ k → units f s q k ≡ inf s
unfolding units
units_inf f s q k h = cond_no (ltb (q * 2 ^ k) (2 ^ (low f + suc (emax f)))) (odd (suc (prec f)) s q k (low f)) (inf s) (le→nltb (q * 2 ^ k) (2 ^ (low f + suc (emax f))) h)

step : {a b : ℕ} → a < b → a < suc b
step h = omega arith

-- the same value as fields x and t
same_val : (f : Format) (s : Bool) (q k x t : ℕ) → x < ones f → t < hid f → q ≤ 2 ^ prec f → lead f x t * 2 ^ expo x ≡ q * 2 ^ k → q * 2 ^ k < 2 ^ (low f + suc (emax f))
    → of_bits f (cond s (top f) 0 + (x * hid f + t)) ≡ units f s q k
same_val f s q k x t X H Q e h =
    let l = 2 ^ low f in
    let is : of_bits f (cond s (top f) 0 + (x * hid f + t)) ≡ of_fields f s x t = fields f s x t (step X) H in
    unique f f (of_bits f (cond s (top f) 0 + (x * hid f + t))) (odd (suc (prec f)) s q k (low f)) s (q * 2 ^ k) l (pow_pos (low f))
    (of_bits-fits f (cond s (top f) 0 + (x * hid f + t)))
    (odd-fits f (suc (prec f)) s q k (lt_of_le_of_lt Q (lib.Pow.pow-lt (native.Mathlib.Nat.le_refl (suc (prec f))))) Q h)
    (subst (λ (v : Float). HasValue v s (q * 2 ^ k) l) (sym is) (subst (λ (a : ℕ). HasValue (of_fields f s x t) s a l) e (fields_val f s x t X)))
    (odd_sign (suc (prec f)) s q k (low f))
    ∙ sym (units_finite f s q k h)

-- ---- a number q of at most prec digits, or 2 ^ prec, times 2 ^ k units. Where k is not 0, q has all its digits

suc_pred : (p : ℕ) → 2 ≤ p → suc (p - 1) ≡ p
suc_pred p h = omega arith

-- 2 ^ prec is twice the weight of the leading digit
pub twice_hid : (f : Format) → 2 ^ prec f ≡ 2 * hid f
twice_hid f = ap (λ (x : ℕ). 2 ^ x) (sym (suc_pred (prec f) (two f))) ∙ pow-succ' 2 (prec f - 1)

reach_k : (p e k : ℕ) → 2 ≤ p → suc k < 2 * e + 1 → p + k ≤ e + p - 2 + suc e
reach_k p e k a b = omega arith

reach_lt : (p e k : ℕ) → 2 ≤ p → suc (suc k) < 2 * e + 1 → p + k < e + p - 2 + suc e
reach_lt p e k a b = omega arith

reach_top : (p e k : ℕ) → 2 ≤ p → suc (suc k) ≡ 2 * e + 1 → e + p - 2 + suc e ≤ p + k
reach_top p e k a b = omega arith

none_of : (h q k : ℕ) → q < h → (0 < k → h ≤ q) → k ≡ 0
none_of h q k a b = elim (eq-zero-or-pos k) [ inl z ↦ z | inr p ↦ absurd (no a (b p)) ]
  where
    no : q < h → h ≤ q → ⊥
    no x y = omega arith

pub pack : (f : Format) (s : Bool) (k q : ℕ) → q ≤ 2 ^ prec f → (0 < k → hid f ≤ q) → suc k < ones f → of_bits f (cond s (top f) 0 + (k * hid f + q)) ≡ units f s q k
pack f s k q Q K R = go (ltb q (hid f)) (ltb→lt q (hid f)) (nltb→le q (hid f)) (eq-or-lt_of_le Q)
  where
    h : ℕ
    h = hid f

    o : ℕ
    o = 2 ^ (low f + suc (emax f))

    carry : (a h q : ℕ) → h ≤ q → a + q ≡ a + h + (q - h)
    carry a h q l = omega arith

    rest_lt : (h q w : ℕ) → w ≡ 2 * h → q < w → q - h < h
    rest_lt h q w e l = omega arith

    twice : (a h w : ℕ) → w ≡ 2 * h → a + w ≡ a + h + h + 0
    twice a h w e = omega arith

    zero_ones : (e : ℕ) → suc k < 2 * e + 1 → 0 < 2 * e + 1
    zero_ones e l = omega arith

    low_case : (k : ℕ) → k ≡ 0 → q < hid f → of_bits f (cond s (top f) 0 + (k * hid f + q)) ≡ units f s q k
    low_case zero e l =
        same_val f s q 0 0 q (zero_ones (emax f) R) l Q refl
        (lt_of_lt_of_le (shl_lt (prec f - 1) 0 l) (pow_mono (le_trans (less (prec f) k (two f)) (reach_k (prec f) (emax f) k (two f) R))))
      where
        less : (p j : ℕ) → 2 ≤ p → p - 1 + 0 ≤ p + j
        less p j a = omega arith
    low_case (suc k) e l = absurd (bad k e)
      where
        bad : (j : ℕ) → suc j ≡ 0 → ⊥
        bad j x = omega arith

    go : (b : Bool) → (T b → q < hid f) → (T (not b) → hid f ≤ q) → (q ≡ 2 ^ prec f) ⊎ (q < 2 ^ prec f) → of_bits f (cond s (top f) 0 + (k * hid f + q)) ≡ units f s q k
    go true l g c = low_case k (none_of (hid f) q k (l tt) K) (l tt)
    go false l g (inr c) =
        ap (λ (a : ℕ). of_bits f (cond s (top f) 0 + a)) (carry (k * hid f) (hid f) q (g tt) ∙ ap (λ (a : ℕ). a + (q - hid f)) (sym (suc-mul k (hid f))))
        ∙ same_val f s q k (suc k) (q - hid f) R (rest_lt (hid f) q (2 ^ prec f) (twice_hid f) c) Q (ap (λ (a : ℕ). a * 2 ^ k) (add-sub_of_le (g tt)))
        (lt_of_lt_of_le (shl_lt (prec f) k c) (pow_mono (reach_k (prec f) (emax f) k (two f) R)))
    go false l g (inl c) =
        ap (λ (a : ℕ). of_bits f (cond s (top f) 0 + a))
        (ap (λ (a : ℕ). k * hid f + a) c ∙ twice (k * hid f) (hid f) (2 ^ prec f) (twice_hid f) ∙ ap (λ (a : ℕ). a + hid f + 0) (sym (suc-mul k (hid f))) ∙ ap (λ (a : ℕ). a + 0) (sym (suc-mul (suc k) (hid f))))
        ∙ full (eq-or-lt_of_le R)
      where
        val : q * 2 ^ k ≡ 2 ^ (prec f + k)
        val = ap (λ (a : ℕ). a * 2 ^ k) c ∙ sym (pow-add 2 (prec f) k)

        carried : (hid f + 0) * 2 ^ suc k ≡ q * 2 ^ k
        carried =
            ap (λ (a : ℕ). a * 2 ^ suc k) (native.Mathlib.Nat.add-zero (hid f))
            ∙ ap (λ (a : ℕ). hid f * a) (pow-succ' 2 k)
            ∙ sym (mul_assoc (hid f) 2 (2 ^ k))
            ∙ ap (λ (a : ℕ). a * 2 ^ k) (mul_comm (hid f) 2 ∙ sym (twice_hid f) ∙ sym c)

        full : (suc (suc k) ≡ ones f) ⊎ (suc (suc k) < ones f) → of_bits f (cond s (top f) 0 + (suc (suc k) * hid f + 0)) ≡ units f s q k
        full (inl e) =
            fields f s (suc (suc k)) 0 (Prim.Native.Nat.suc-le-suc R) (pow_pos (prec f - 1))
            ∙ fields_top f s (suc (suc k)) 0 e
            ∙ sym (units_inf f s q k (subst (λ (a : ℕ). o ≤ a) (sym val) (pow_mono (reach_top (prec f) (emax f) k (two f) e))))
        full (inr g) =
            same_val f s q k (suc (suc k)) 0 g (pow_pos (prec f - 1)) Q carried
            (subst (λ (a : ℕ). a < o) (sym val) (lib.Pow.pow-lt (reach_lt (prec f) (emax f) k (two f) g)))

-- ---- how many digits `round` drops

size_gt : (n j : ℕ) → 2 ^ j ≤ n → j < size n
size_gt n j h = lt_of_not-le (λ (g : size n ≤ j). not-le_of_lt (lt_of_lt_of_le (size-lt n) (pow_mono g)) h)

drop_is : (p n k : ℕ) → 2 ≤ p → n < 2 ^ (p + k) → (0 < k → 2 ^ (p - 1 + k) ≤ n) → size n - p ≡ k
drop_is p n k P h g = elim (eq-zero-or-pos k) [ inl z ↦ none (size n) p k (size-le n (p + k) h) z | inr q ↦ some (size n) p k P (size-le n (p + k) h) (size_gt n (p - 1 + k) (g q)) ]
  where
    none : (z p k : ℕ) → z ≤ p + k → k ≡ 0 → z - p ≡ k
    none z p k a b = omega arith

    some : (z p k : ℕ) → 2 ≤ p → z ≤ p + k → p - 1 + k < z → z - p ≡ k
    some z p k q a b = omega arith

-- k is what `round` drops, if the fraction has at most prec + k digits, and no fewer where k is not 0
pub round_at : (f : Format) (s : Bool) (num den k : ℕ) → 0 < den → num * 2 ^ low f < 2 ^ (prec f + k) * den → (0 < k → 2 ^ (prec f - 1 + k) * den ≤ num * 2 ^ low f)
    → round f s num den ≡ units f s (closest (num * 2 ^ low f) (den * 2 ^ k)) k
round_at f s num den k D h g =
    let n = num * 2 ^ low f in
    round_is f s num den
    ∙ ap (λ (j : ℕ). units f s (closest n (den * 2 ^ j)) j) (drop_is (prec f) (n / den) k (two f) ((div-lt_iff_lt-mul D).1 h) (λ q. (le-div_iff_mul-le D).1 (g q)))

-- ---- the fraction W * 2 ^ i / 2 ^ D, where sh of W's digits are dropped
module _ (f : Format) (s : Bool) (W i D k sh : ℕ) (e : i + low f + sh ≡ D + k) (hi : W < 2 ^ (prec f + sh)) (lo : 0 < k → 2 ^ (prec f - 1 + sh) ≤ W) where
  sum : 2 ^ i * 2 ^ low f * 2 ^ sh ≡ 2 ^ D * 2 ^ k
  sum = ap (λ (a : ℕ). a * 2 ^ sh) (sym (pow-add 2 i (low f))) ∙ sym (pow-add 2 (i + low f) sh) ∙ ap (λ (a : ℕ). 2 ^ a) e ∙ pow-add 2 D k

  -- a * 2 ^ sh units of W are a * 2 ^ k units of the fraction
  scaled : (a : ℕ) → 2 ^ (a + sh) * (2 ^ i * 2 ^ low f) ≡ 2 ^ (a + k) * 2 ^ D
  scaled a =
      ap (λ (z : ℕ). z * (2 ^ i * 2 ^ low f)) (pow-add 2 a sh)
      ∙ mul_assoc (2 ^ a) (2 ^ sh) (2 ^ i * 2 ^ low f)
      ∙ ap (λ (z : ℕ). 2 ^ a * z) (mul_comm (2 ^ sh) (2 ^ i * 2 ^ low f) ∙ sum ∙ mul_comm (2 ^ D) (2 ^ k))
      ∙ sym (mul_assoc (2 ^ a) (2 ^ k) (2 ^ D))
      ∙ ap (λ (z : ℕ). z * 2 ^ D) (sym (pow-add 2 a k))

  unit_pos : 0 < 2 ^ i * 2 ^ low f
  unit_pos = mul-pos (pow_pos i) (pow_pos (low f))

  pub encode : round f s (W * 2 ^ i) (2 ^ D) ≡ units f s (closest W (2 ^ sh)) k
  encode =
      round_at f s (W * 2 ^ i) (2 ^ D) k (pow_pos D)
      (subst (λ (a : ℕ). W * 2 ^ i * 2 ^ low f < a) (scaled (prec f)) (subst (λ (a : ℕ). a < 2 ^ (prec f + sh) * (2 ^ i * 2 ^ low f)) (sym (mul_assoc W (2 ^ i) (2 ^ low f))) (mul-lt-mul_of_pos_right hi unit_pos)))
      (λ q. subst (λ (a : ℕ). a ≤ W * 2 ^ i * 2 ^ low f) (scaled (prec f - 1)) (subst (λ (a : ℕ). 2 ^ (prec f - 1 + sh) * (2 ^ i * 2 ^ low f) ≤ a) (sym (mul_assoc W (2 ^ i) (2 ^ low f))) (mul-le-mul_right (2 ^ i * 2 ^ low f) (lo q))))
      ∙ ap (λ (a : ℕ). units f s a k)
      (closest_same (W * 2 ^ i * 2 ^ low f) (2 ^ D * 2 ^ k) W (2 ^ sh) (mul-pos (pow_pos D) (pow_pos k)) (pow_pos sh)
      (mul_assoc (W * 2 ^ i) (2 ^ low f) (2 ^ sh) ∙ mul_assoc W (2 ^ i) (2 ^ low f * 2 ^ sh) ∙ ap (λ (a : ℕ). W * a) (sym (mul_assoc (2 ^ i) (2 ^ low f) (2 ^ sh)) ∙ sum)))

  pub closest_le : closest W (2 ^ sh) ≤ 2 ^ prec f
  closest_le = le_trans (nearest-le (W / 2 ^ sh) (compare (W % 2 ^ sh * 2) (2 ^ sh))) (lib.Pow.shr_lt (prec f) sh hi)

  pub closest_ge : 0 < k → hid f ≤ closest W (2 ^ sh)
  closest_ge q = le_trans ((le-div_iff_mul-le (pow_pos sh)).1 (le_trans (le_of_eq (sym (pow-add 2 (prec f - 1) sh))) (lo q))) (nearest-ge (W / 2 ^ sh) (compare (W % 2 ^ sh * 2) (2 ^ sh)))

  -- as bits
  pub written : suc k < ones f → of_bits f (cond s (top f) 0 + (k * hid f + closest W (2 ^ sh))) ≡ round f s (W * 2 ^ i) (2 ^ D)
  written R = pack f s k (closest W (2 ^ sh)) closest_le closest_ge R ∙ sym encode

-- ---- from 2 ^ (emax + 1) on the result is an infinity
pub too_large : (f : Format) (s : Bool) (num den : ℕ) → 0 < den → 2 ^ suc (emax f) * den ≤ num → round f s num den ≡ inf s
too_large f s num den D h =
    let p = prec f in
    let m = low f + suc (emax f) in
    let n = num * 2 ^ low f in
    let k = size (n / den) - p in
    let big : 2 ^ m * den ≤ n = le_trans (le_of_eq (ap (λ (a : ℕ). a * den) (pow-add 2 (low f) (suc (emax f))) ∙ mul_assoc (2 ^ low f) (2 ^ suc (emax f)) den ∙ mul_comm (2 ^ low f) (2 ^ suc (emax f) * den))) (mul-le-mul_right (2 ^ low f) h) in
    let digits : m < size (n / den) = size_gt (n / den) m ((le-div_iff_mul-le D).1 big) in
    let kp : p - 1 + k < size (n / den) = all_in_use (size (n / den)) p m (two f) (wide p (emax f) (two f) (reach f)) digits in
    let q_ge : 2 ^ (p - 1) ≤ n / (den * 2 ^ k) =
    subst (λ (a : ℕ). 2 ^ (p - 1) ≤ a) (div-div-eq-div-mul n den (2 ^ k)) ((le-div_iff_mul-le (pow_pos k)).1 (le_trans (le_of_eq (sym (pow-add 2 (p - 1) k))) (size_reaches (n / den) (p - 1 + k) kp))) in
    round_is f s num den
    ∙ units_inf f s (closest n (den * 2 ^ k)) k
    (le_trans (pow_mono (enough (size (n / den)) p m (two f) digits))
    (le_trans (le_of_eq (pow-add 2 (p - 1) k)) (mul-le-mul_right (2 ^ k) (le_trans q_ge (nearest-ge (n / (den * 2 ^ k)) (compare (n % (den * 2 ^ k) * 2) (den * 2 ^ k)))))))
  where
    wide : (p e : ℕ) → 2 ≤ p → p ≤ suc e → p ≤ e + p - 2 + suc e
    wide p e a b = omega arith

    all_in_use : (z p m : ℕ) → 2 ≤ p → p ≤ m → m < z → p - 1 + (z - p) < z
    all_in_use z p m a b c = omega arith

    enough : (z p m : ℕ) → 2 ≤ p → m < z → m ≤ p - 1 + (z - p)
    enough z p m a b = omega arith

-- ---- below half of the smallest value the result is zero
pub too_small : (f : Format) (s : Bool) (num den : ℕ) → 0 < den → num * 2 ^ low f * 2 < den → round f s num den ≡ fin s 0 (pos 0)
too_small f s num den D h =
    let n = num * 2 ^ low f in
    round_at f s num den 0 D (lt_of_lt_of_le (halve n den h) (le_trans (le_of_eq (sym (one-mul den))) (mul-le-mul_right den (pow_pos (prec f + 0))))) (λ q. absurd (lt_irrefl 0 q))
    ∙ ap (λ (a : ℕ). units f s (closest n a) 0) (mul-one den)
    ∙ ap (λ (a : ℕ). units f s a 0) (nothing n den h)
    ∙ units_finite f s 0 0 (pow_pos (low f + suc (emax f)))
    ∙ zero_odd (suc (prec f)) s (low f)
  where
    halve : (n d : ℕ) → n * 2 < d → n < d
    halve n d a = omega arith

    zero_odd : (d : ℕ) (s : Bool) (l : ℕ) → odd d s 0 0 l ≡ fin s 0 (pos 0)
    zero_odd d s l = unfold odd in refl

    nothing : (n d : ℕ) → n * 2 < d → closest n d ≡ 0
    nothing n d a =
        ap (λ (q : ℕ). lib.Ieee.nearest q (compare (n % d * 2) d)) (native.Mathlib.Nat.div-eq_of_lt (halve n d a))
        ∙ ap (λ (r : ℕ). lib.Ieee.nearest 0 (compare (r * 2) d)) (mod-eq_of_lt (halve n d a))
        ∙ ap (λ (o : Prim.Native.Nat.Ordering). lib.Ieee.nearest 0 o) (compare_lt a)

-- ---- a rounded value is no NaN
odd_no_nan : (d : ℕ) (s : Bool) (q k l : ℕ) → is_nan (odd d s q k l) ≡ false
unfolding odd is_nan
odd_no_nan d s zero k l = refl
odd_no_nan d s (suc q) k l = refl

pub units_no_nan : (f : Format) (s : Bool) (q k : ℕ) → T (not (is_nan (units f s q k)))
unfolding units is_nan
units_no_nan f s q k = go (ltb (q * 2 ^ k) (2 ^ (low f + suc (emax f))))
  where
    go : (b : Bool) → T (not (is_nan (cond b (odd (suc (prec f)) s q k (low f)) (inf s))))
    go true = subst (λ (b : Bool). T (not b)) (sym (odd_no_nan (suc (prec f)) s q k (low f))) tt
    go false = tt

pub round_no_nan : (f : Format) (s : Bool) (num den : ℕ) → T (not (is_nan (round f s num den)))
round_no_nan f s num den = subst (λ (x : Float). T (not (is_nan x))) (sym (round_is f s num den)) (units_no_nan f s _ _)
