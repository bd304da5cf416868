-- A float that a format holds is written in one way: two that have the same sign and the same size are the same. Assumes nothing.
use Rattle.std.proofs.Common.{◌≡◌, ℕ, zero, suc, ◌+◌, ◌*◌, ◌%◌, ◌^◌, ◌<◌, ◌≤◌, Bool, ◌&&◌, T, eqb, ltb, leb, ℤ, pos, negsuc, sym, refl, ap, ◌∙◌, subst, lt_irrefl, zero-lt-suc, mul_assoc, mul-pos, one-mul, pow-suc, zero-mul, mul-one, mul_right_comm, mul_left_comm, arith, eqb→eq, ltb→lt, leb→le, pow_pos, pow-add}
use native.Mathlib.Nat.{pow-succ', eq_of_mul-eq-mul_right}
use lib.Ieee.{Float, nan, inf, fin, Format, prec, emax, low, up, down, fits}
use lib.Ieee.Fits.{up_pos, down_pos, and_l, and_r}
use lib.Ieee.Exact.{HasValue}

-- ---- what `fits` says of a finite value that is not zero
pub record Held (f : Format) (m : ℕ) (e : ℤ) : Type 0 where
  pub odd : m % 2 ≡ 1
  pub digits : m < 2 ^ prec f
  pub lowest : down e ≤ 2 ^ low f
  pub highest : m * up e < 2 ^ suc (emax f) * down e

pub held : (f : Format) (s : Bool) (m : ℕ) (e : ℤ) → T (fits f (fin s (suc m) e)) → Held f (suc m) e
unfolding fits
held f s m e h =
    let A = eqb (suc m % 2) 1 in
    let B = ltb (suc m) (2 ^ prec f) in
    let C = leb (down e) (2 ^ low f) in
    let D = ltb (suc m * up e) (2 ^ suc (emax f) * down e) in
    record {
      odd = eqb→eq (suc m % 2) 1 (and_l A B (and_l (A && B) C (and_l (A && B && C) D h)));
      digits = ltb→lt (suc m) (2 ^ prec f) (and_r A B (and_l (A && B) C (and_l (A && B && C) D h)));
      lowest = leb→le (down e) (2 ^ low f) (and_r (A && B) C (and_l (A && B && C) D h));
      highest = ltb→lt (suc m * up e) (2 ^ suc (emax f) * down e) (and_r (A && B && C) D h);
    }

pub digits_lt : (f : Format) (s : Bool) (m : ℕ) (e : ℤ) → T (fits f (fin s m e)) → m < 2 ^ prec f
digits_lt f s zero e h = pow_pos (prec f)
digits_lt f s (suc m) e h = (held f s m e h).digits

two_up : (p : ℕ) → 0 < p → 2 * p ≡ 1 → ⊥
two_up p h e = omega arith

flat : (e : ℤ) → up e * down e ≡ 1 → e ≡ pos 0
flat (pos zero) h = refl
flat (pos (suc k)) h = absurd (two_up (2 ^ k) (pow_pos k) (sym (pow-succ' 2 k) ∙ sym (mul-one (2 ^ suc k)) ∙ h))
flat (negsuc k) h = absurd (two_up (2 ^ k) (pow_pos k) (sym (pow-succ' 2 k) ∙ sym (one-mul (2 ^ suc k)) ∙ h))

pub zero_exp : (f : Format) (s : Bool) (e : ℤ) → T (fits f (fin s zero e)) → e ≡ pos 0
unfolding fits
zero_exp f s e t = flat e (eqb→eq (up e * down e) 1 t)

-- ---- an odd number times a power of two, in one way
even_odd : (m t : ℕ) → m % 2 ≡ 1 → m ≡ 2 * t → ⊥
even_odd m t o h = omega arith

odd_pow : (m n a b : ℕ) → m % 2 ≡ 1 → n % 2 ≡ 1 → m * 2 ^ a ≡ n * 2 ^ b → (m ≡ n) × (a ≡ b)
odd_pow m n zero zero o p h = (sym (mul-one m) ∙ h ∙ mul-one n, refl)
odd_pow m n zero (suc b) o p h = absurd (even_odd m (n * 2 ^ b) o (sym (mul-one m) ∙ h ∙ ap (λ (x : ℕ). n * x) (pow-succ' 2 b) ∙ mul_left_comm n 2 (2 ^ b)))
odd_pow m n (suc a) zero o p h = absurd (even_odd n (m * 2 ^ a) p (sym (mul-one n) ∙ sym h ∙ ap (λ (x : ℕ). m * x) (pow-succ' 2 a) ∙ mul_left_comm m 2 (2 ^ a)))
odd_pow m n (suc a) (suc b) o p h =
    let r = odd_pow m n a b o p (eq_of_mul-eq-mul_right 2 (zero-lt-suc 1) (m * 2 ^ a) (n * 2 ^ b)
    (mul_assoc m (2 ^ a) 2 ∙ ap (λ (x : ℕ). m * x) (sym (pow-suc 2 a)) ∙ h ∙ ap (λ (x : ℕ). n * x) (pow-suc 2 b) ∙ sym (mul_assoc n (2 ^ b) 2))) in
    (r.0, ap suc r.1)

no_suc : (a b : ℕ) → a + suc b ≡ 0 → ⊥
no_suc a b h = omega arith

suc_is : (a b : ℕ) → suc a ≡ suc b → b ≡ a
suc_is a b h = omega arith

exps : (m n : ℕ) (e d : ℤ) → m % 2 ≡ 1 → n % 2 ≡ 1 → m * up e * down d ≡ n * up d * down e → (m ≡ n) × (e ≡ d)
exps m n (pos a) (pos b) o p h =
    let r = odd_pow m n a b o p (sym (mul-one (m * 2 ^ a)) ∙ h ∙ mul-one (n * 2 ^ b)) in (r.0, ap pos r.1)
exps m n (pos a) (negsuc b) o p h =
    absurd (no_suc a b (odd_pow m n (a + suc b) 0 o p (ap (λ (x : ℕ). m * x) (pow-add 2 a (suc b)) ∙ sym (mul_assoc m (2 ^ a) (2 ^ suc b)) ∙ h ∙ mul-one (n * 1))).1)
exps m n (negsuc a) (pos b) o p h =
    absurd (no_suc b a (sym (odd_pow m n 0 (b + suc a) o p (sym (mul-one (m * 1)) ∙ h ∙ mul_assoc n (2 ^ b) (2 ^ suc a) ∙ ap (λ (x : ℕ). n * x) (sym (pow-add 2 b (suc a))))).1))
exps m n (negsuc a) (negsuc b) o p h =
    let r = odd_pow m n (suc b) (suc a) o p (ap (λ (x : ℕ). x * 2 ^ suc b) (sym (mul-one m)) ∙ h ∙ ap (λ (x : ℕ). x * 2 ^ suc a) (mul-one n)) in
    (r.0, ap negsuc (suc_is b a r.1))

-- x / de is a / c and y / dd is a / c
cross : (x y de dd a c : ℕ) → 0 < c → x * c ≡ a * de → y * c ≡ a * dd → x * dd ≡ y * de
cross x y de dd a c C p q =
    eq_of_mul-eq-mul_right c C (x * dd) (y * de)
    (mul_right_comm x dd c ∙ ap (λ (z : ℕ). z * dd) p ∙ mul_right_comm a de dd ∙ ap (λ (z : ℕ). z * de) (sym q) ∙ mul_right_comm y c de)

none : (n : ℕ) (d : ℕ) (u v : ℕ) → 0 < u → 0 < v → 0 ≡ suc n * u * v → ⊥
none n d u v a b h = lt_irrefl 0 (subst (λ (k : ℕ). 0 < k) (sym h) (mul-pos (mul-pos (zero-lt-suc n) a) b))

nought : (u v : ℕ) → 0 * u * v ≡ 0
nought u v = ap (λ (k : ℕ). k * v) (zero-mul u) ∙ zero-mul v

pub unique : (f g : Format) (x y : Float) (s : Bool) (a c : ℕ) → 0 < c → T (fits f x) → T (fits g y) → HasValue x s a c → HasValue y s a c → x ≡ y
unique f g (fin t zero e) (fin u zero d) s a c C p q v w = λ i. fin ((v.0 ∙ sym w.0) i) zero ((zero_exp f t e p ∙ sym (zero_exp g u d q)) i)
unique f g (fin t zero e) (fin u (suc n) d) s a c C p q v w =
    absurd (none n 0 (up d) (down e) (up_pos d) (down_pos e) (sym (nought (up e) (down d)) ∙ cross (0 * up e) (suc n * up d) (down e) (down d) a c C v.1 w.1))
unique f g (fin t (suc m) e) (fin u zero d) s a c C p q v w =
    absurd (none m 0 (up e) (down d) (up_pos e) (down_pos d) (sym (nought (up d) (down e)) ∙ cross (0 * up d) (suc m * up e) (down d) (down e) a c C w.1 v.1))
unique f g (fin t (suc m) e) (fin u (suc n) d) s a c C p q v w =
    let r = exps (suc m) (suc n) e d (held f t m e p).odd (held g u n d q).odd (cross (suc m * up e) (suc n * up d) (down e) (down d) a c C v.1 w.1) in
    λ i. fin ((v.0 ∙ sym w.0) i) (r.0 i) (r.1 i)
unique f g nan y s a c C p q v w = elim v [ ]
unique f g (inf _) y s a c C p q v w = elim v [ ]
unique f g (fin t zero e) nan s a c C p q v w = elim w [ ]
unique f g (fin t zero e) (inf _) s a c C p q v w = elim w [ ]
unique f g (fin t (suc m) e) nan s a c C p q v w = elim w [ ]
unique f g (fin t (suc m) e) (inf _) s a c C p q v w = elim w [ ]
