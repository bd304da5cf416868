-- Finite values with the sign clear, zero among them, each as a fraction `num` / `den`: their order is the fractions', and sum, product and
-- quotient keep it. So a bound on an operand gives a bound on the result. Assumes nothing.
use Rattle.std.proofs.Common.{◌≡◌, ℕ, zero, suc, ◌+◌, ◌-◌, ◌*◌, ◌/◌, ◌^◌, ◌<◌, ◌≤◌, Bool, true, false, cond, not, ◌&&◌, ◌||◌, T, eqb, ltb, sym, refl, ap, ◌∙◌, subst, true≢false, le_trans, le_of_eq, lt_irrefl, mul-le-mul_right, mul_assoc, mul_comm, add-mul, mul-le-mul, mul-pos, mul_left_comm, arith, eqb→eq, ltb→lt}
use native.Mathlib.Nat.{mul-mul-mul_comm}
use lib.Ieee.{Float, nan, inf, fin, Format, prec, emax, low, up, down, size, odd, units, round, sum, add, mul, div, le}
use lib.Ieee.Fits.{up_pos, round_is}
use lib.Ieee.Nearest.{closest}
use lib.Ieee.Exact.{HasValue}
use lib.Ieee.Order.{transfer, le_of_values, round_mono}
use lib.Ieee.Positive.{num, den, den_pos, positive, positive_of_value, value→cross, through}
use lib.Ieee.Scale.{round_same, finite}

-- finite, with the sign clear
abbrev pub unsigned : Float → Bool
unsigned nan = false
unsigned (inf s) = false
unsigned (fin s m e) = not s

pub own_value : (x : Float) → T (unsigned x) → HasValue x false (num x) (den x)
own_value nan p = absurd p
own_value (inf s) p = absurd p
own_value (fin true m e) p = absurd p
own_value (fin false m e) p = (refl, refl)

pub unsigned_of_value : (x : Float) (a c : ℕ) → HasValue x false a c → T (unsigned x)
unsigned_of_value nan a c h = absurd h
unsigned_of_value (inf s) a c h = absurd h
unsigned_of_value (fin true m e) a c h = absurd (true≢false h.0)
unsigned_of_value (fin false m e) a c h = tt

pub unsigned_finite : (x : Float) → T (unsigned x) → T (finite x)
unsigned_finite nan p = absurd p
unsigned_finite (inf s) p = absurd p
unsigned_finite (fin s m e) p = tt

-- ---- the order
weak : (a b : ℕ) → T (ltb a b || (eqb a b && true)) → a ≤ b
weak a b = go (ltb a b) (eqb a b) (ltb→lt a b) (eqb→eq a b)
  where
    lt_of : a < b → a ≤ b
    lt_of h = omega arith

    eq_of : a ≡ b → a ≤ b
    eq_of h = omega arith

    go : (p q : Bool) → (T p → a < b) → (T q → a ≡ b) → T (p || (q && true)) → a ≤ b
    go true q h k t = lt_of (h tt)
    go false true h k t = eq_of (k tt)
    go false false h k t = absurd t

pub le→cross : (x y : Float) → T (unsigned x) → T (unsigned y) → T (le x y) → num x * den y ≤ num y * den x
unfolding le
le→cross nan y p q h = absurd p
le→cross (inf s) y p q h = absurd p
le→cross (fin true m e) y p q h = absurd p
le→cross (fin false m e) nan p q h = absurd q
le→cross (fin false m e) (inf t) p q h = absurd q
le→cross (fin false m e) (fin true n d) p q h = absurd q
le→cross (fin false m e) (fin false n d) p q h = weak (m * up e * down d) (n * up d * down e) h

pub cross→le : (x y : Float) → T (unsigned x) → T (unsigned y) → num x * den y ≤ num y * den x → T (le x y)
cross→le x y p q h = le_of_values x y (num x) (den x) (num y) (den y) (den_pos x) (den_pos y) (own_value x p) (own_value y q) h

-- by any fractions that the two equal
pub values_of_le : (x y : Float) (a c b d : ℕ) → T (unsigned x) → T (unsigned y) → HasValue x false a c → HasValue y false b d → T (le x y) → a * d ≤ b * c
values_of_le x y a c b d p q h k l =
    transfer a b c d (num x) (num y) (den x) (den y) (den_pos x) (den_pos y) (sym (value→cross x a c h)) (sym (value→cross y b d k)) (le→cross x y p q l)

pub le_trans_unsigned : (x y z : Float) → T (unsigned x) → T (unsigned y) → T (unsigned z) → T (le x y) → T (le y z) → T (le x z)
le_trans_unsigned x y z p q r h k = cross→le x z p r (through (num x) (num y) (num z) (den x) (den y) (den z) (den_pos y) (le→cross x y p q h) (le→cross y z q r k))

-- ---- the operations, by their operands' fractions
pub add_is : (f : Format) (x y : Float) → T (unsigned x) → T (unsigned y) → add f x y ≡ round f false (num x * den y + num y * den x) (den x * den y)
unfolding add sum
add_is f nan y p q = absurd p
add_is f (inf s) y p q = absurd p
add_is f (fin true m e) y p q = absurd p
add_is f (fin false m e) nan p q = absurd q
add_is f (fin false m e) (inf t) p q = absurd q
add_is f (fin false m e) (fin true n d) p q = absurd q
add_is f (fin false m e) (fin false n d) p q = refl

pub mul_is : (f : Format) (x y : Float) → T (unsigned x) → T (unsigned y) → mul f x y ≡ round f false (num x * num y) (den x * den y)
unfolding mul
mul_is f nan y p q = absurd p
mul_is f (inf s) y p q = absurd p
mul_is f (fin true m e) y p q = absurd p
mul_is f (fin false m e) nan p q = absurd q
mul_is f (fin false m e) (inf t) p q = absurd q
mul_is f (fin false m e) (fin true n d) p q = absurd q
mul_is f (fin false m e) (fin false n d) p q = refl

pub div_is : (f : Format) (x y : Float) → T (unsigned x) → T (positive y) → div f x y ≡ round f false (num x * den y) (num y * den x)
unfolding div
div_is f nan y p q = absurd p
div_is f (inf s) y p q = absurd p
div_is f (fin true m e) y p q = absurd p
div_is f (fin false m e) nan p q = absurd q
div_is f (fin false m e) (inf t) p q = absurd q
div_is f (fin false m e) (fin true n d) p q = absurd q
div_is f (fin false m e) (fin false n d) p q = go (eqb n 0) (λ (t : T (eqb n 0)). lt_irrefl 0 (subst (λ (k : ℕ). 0 < k) (eqb→eq n 0 t) (ltb→lt 0 n q)))
  where
    go : (b : Bool) → (T b → ⊥)
        → cond b (cond (eqb m 0) nan (inf false)) (round f false (m * up e * down d) (n * up d * down e)) ≡ round f false (m * up e * down d) (n * up d * down e)
    go true k = absurd (k tt)
    go false k = refl

positive_num : (x : Float) → T (positive x) → 0 < num x
positive_num nan p = absurd p
positive_num (inf s) p = absurd p
positive_num (fin true m e) p = absurd p
positive_num (fin false m e) p = mul-pos (ltb→lt 0 m p) (up_pos e)

-- ---- the same, by any fractions that the operands equal
module _ (f : Format) (x y : Float) (a c b d : ℕ) (C : 0 < c) (D : 0 < d) (h : HasValue x false a c) (k : HasValue y false b d) where
  p : T (unsigned x)
  p = unsigned_of_value x a c h

  q : T (unsigned y)
  q = unsigned_of_value y b d k

  pub add_at : add f x y ≡ round f false (a * d + b * c) (c * d)
  add_at =
      add_is f x y p q
      ∙ round_same f false (num x * den y + num y * den x) (den x * den y) (a * d + b * c) (c * d) (mul-pos (den_pos x) (den_pos y)) (mul-pos C D)
      (same (num x) (den x) (num y) (den y) (value→cross x a c h) (value→cross y b d k))
    where
      same : (i m j n : ℕ) → i * c ≡ a * m → j * d ≡ b * n → (i * n + j * m) * (c * d) ≡ (a * d + b * c) * (m * n)
      same i m j n u v =
          let l : (i * n + j * m) * (c * d) ≡ i * c * (d * n) + j * d * (c * m) = simp (add-mul, mul_assoc, mul_comm, mul_left_comm) in
          let r : (a * d + b * c) * (m * n) ≡ a * m * (d * n) + b * n * (c * m) = simp (add-mul, mul_assoc, mul_comm, mul_left_comm) in
          l ∙ ap (λ (z : ℕ). z * (d * n) + j * d * (c * m)) u ∙ ap (λ (z : ℕ). a * m * (d * n) + z * (c * m)) v ∙ sym r

  pub mul_at : mul f x y ≡ round f false (a * b) (c * d)
  mul_at =
      mul_is f x y p q
      ∙ round_same f false (num x * num y) (den x * den y) (a * b) (c * d) (mul-pos (den_pos x) (den_pos y)) (mul-pos C D)
      (mul-mul-mul_comm (num x) (num y) c d ∙ ap (λ (z : ℕ). z * (num y * d)) (value→cross x a c h) ∙ ap (λ (z : ℕ). a * den x * z) (value→cross y b d k) ∙ mul-mul-mul_comm a (den x) b (den y))

  pub div_at : 0 < b → div f x y ≡ round f false (a * d) (b * c)
  div_at B =
      let r = positive_of_value y b d k B in
      div_is f x y p r
      ∙ round_same f false (num x * den y) (num y * den x) (a * d) (b * c) (mul-pos (positive_num y r) (den_pos x)) (mul-pos B C)
      (same (num x) (den x) (num y) (den y) (value→cross x a c h) (value→cross y b d k))
    where
      same : (i m j n : ℕ) → i * c ≡ a * m → j * d ≡ b * n → i * n * (b * c) ≡ a * d * (j * m)
      same i m j n u v =
          let l : i * n * (b * c) ≡ i * c * (b * n) = simp (mul_assoc, mul_comm, mul_left_comm) in
          let r : a * d * (j * m) ≡ a * m * (j * d) = simp (mul_assoc, mul_comm, mul_left_comm) in
          l ∙ ap (λ (z : ℕ). z * (b * n)) u ∙ ap (λ (z : ℕ). a * m * z) (sym v) ∙ sym r

positive_unsigned : (x : Float) → T (positive x) → T (unsigned x)
positive_unsigned nan p = absurd p
positive_unsigned (inf s) p = absurd p
positive_unsigned (fin true m e) p = absurd p
positive_unsigned (fin false m e) p = tt

-- two rounded fractions in order, at two values that they equal
ordered : (f : Format) (x y : Float) (a b c d : ℕ) → 0 < b → 0 < d → x ≡ round f false a b → y ≡ round f false c d → a * d ≤ c * b → T (le x y)
ordered f x y a b c d B D p q h =
    subst (λ (z : Float). T (le z y)) (sym p) (subst (λ (z : Float). T (le (round f false a b) z)) (sym q) (round_mono f a b c d B D h))

module _ (f : Format) (x x' y y' : Float) (p : T (unsigned x)) (p' : T (unsigned x')) where
  pub add_mono : T (unsigned y) → T (unsigned y') → T (le x x') → T (le y y') → T (le (add f x y) (add f x' y'))
  add_mono q q' h k =
      ordered f (add f x y) (add f x' y') (num x * den y + num y * den x) (den x * den y) (num x' * den y' + num y' * den x') (den x' * den y')
      (mul-pos (den_pos x) (den_pos y)) (mul-pos (den_pos x') (den_pos y')) (add_is f x y p q) (add_is f x' y' p' q')
      (crossed (num x) (den x) (num y) (den y) (num x') (den x') (num y') (den y') (le→cross x x' p p' h) (le→cross y y' q q' k))
    where
      crossed : (a b c d a' b' c' d' : ℕ) → a * b' ≤ a' * b → c * d' ≤ c' * d → (a * d + c * b) * (b' * d') ≤ (a' * d' + c' * b') * (b * d)
      crossed a b c d a' b' c' d' u v =
          let l : (a * d + c * b) * (b' * d') ≡ a * b' * (d * d') + c * d' * (b * b') = simp (add-mul, mul_assoc, mul_comm, mul_left_comm) in
          let r : (a' * d' + c' * b') * (b * d) ≡ a' * b * (d * d') + c' * d * (b * b') = simp (add-mul, mul_assoc, mul_comm, mul_left_comm) in
          le_trans (le_of_eq l) (le_trans (both (mul-le-mul_right (d * d') u) (mul-le-mul_right (b * b') v)) (le_of_eq (sym r)))
        where
          both : {i j k l : ℕ} → i ≤ j → k ≤ l → i + k ≤ j + l
          both s t = omega arith

  pub mul_mono : T (unsigned y) → T (unsigned y') → T (le x x') → T (le y y') → T (le (mul f x y) (mul f x' y'))
  mul_mono q q' h k =
      ordered f (mul f x y) (mul f x' y') (num x * num y) (den x * den y) (num x' * num y') (den x' * den y')
      (mul-pos (den_pos x) (den_pos y)) (mul-pos (den_pos x') (den_pos y')) (mul_is f x y p q) (mul_is f x' y' p' q')
      (le_trans (le_of_eq (mul-mul-mul_comm (num x) (num y) (den x') (den y')))
      (le_trans (mul-le-mul (le→cross x x' p p' h) (le→cross y y' q q' k)) (le_of_eq (mul-mul-mul_comm (num x') (den x) (num y') (den y)))))

  -- a larger dividend, a smaller divisor
  pub div_mono : T (positive y) → T (positive y') → T (le x x') → T (le y' y) → T (le (div f x y) (div f x' y'))
  div_mono q q' h k =
      ordered f (div f x y) (div f x' y') (num x * den y) (num y * den x) (num x' * den y') (num y' * den x')
      (mul-pos (positive_num y q) (den_pos x)) (mul-pos (positive_num y' q') (den_pos x')) (div_is f x y p q) (div_is f x' y' p' q')
      (crossed (num x) (den x) (num y) (den y) (num x') (den x') (num y') (den y') (le→cross x x' p p' h) (le→cross y' y (positive_unsigned y' q') (positive_unsigned y q) k))
    where
      crossed : (a b c d a' b' c' d' : ℕ) → a * b' ≤ a' * b → c' * d ≤ c * d' → a * d * (c' * b') ≤ a' * d' * (c * b)
      crossed a b c d a' b' c' d' u v =
          let l : a * d * (c' * b') ≡ a * b' * (c' * d) = simp (mul_assoc, mul_comm, mul_left_comm) in
          let r : a' * d' * (c * b) ≡ a' * b * (c * d') = simp (mul_assoc, mul_comm, mul_left_comm) in
          le_trans (le_of_eq l) (le_trans (mul-le-mul u v) (le_of_eq (sym r)))

-- ---- a rounded fraction with the sign clear is `unsigned`, or it is too large
clear : Float → Bool
clear nan = false
clear (inf s) = not s
clear (fin s m e) = not s

units_clear : (f : Format) (q k : ℕ) → T (clear (units f false q k))
unfolding units odd clear
units_clear f zero k = go (ltb (0 * 2 ^ k) (2 ^ (low f + suc (emax f))))
  where
    go : (b : Bool) → T (clear (cond b (odd (suc (prec f)) false 0 k (low f)) (inf false)))
    go true = tt
    go false = tt
units_clear f (suc q) k = go (ltb (suc q * 2 ^ k) (2 ^ (low f + suc (emax f))))
  where
    go : (b : Bool) → T (clear (cond b (odd (suc (prec f)) false (suc q) k (low f)) (inf false)))
    go true = tt
    go false = tt

below_finite : (z hi : Float) → T (clear z) → T (unsigned hi) → T (le z hi) → T (unsigned z)
unfolding le clear
below_finite nan hi c p h = absurd c
below_finite (inf true) hi c p h = absurd c
below_finite (inf false) nan c p h = absurd p
below_finite (inf false) (inf t) c p h = absurd p
below_finite (inf false) (fin t n d) c p h = absurd h
below_finite (fin s m e) hi c p h = c

pub bounded : (f : Format) (a b : ℕ) (z hi : Float) → z ≡ round f false a b → T (unsigned hi) → T (le z hi) → T (unsigned z)
bounded f a b z hi e p h =
    below_finite z hi (subst (λ (k : Float). T (clear k)) (sym (e ∙ round_is f false a b)) (units_clear f (closest (a * 2 ^ low f) (b * 2 ^ (size (a * 2 ^ low f / b) - prec f))) (size (a * 2 ^ low f / b) - prec f))) p h

module _ (f : Format) (x y hi : Float) (p : T (unsigned x)) (r : T (unsigned hi)) where
  pub add_bounded : T (unsigned y) → T (le (add f x y) hi) → T (unsigned (add f x y))
  add_bounded q h = bounded f (num x * den y + num y * den x) (den x * den y) (add f x y) hi (add_is f x y p q) r h

  pub mul_bounded : T (unsigned y) → T (le (mul f x y) hi) → T (unsigned (mul f x y))
  mul_bounded q h = bounded f (num x * num y) (den x * den y) (mul f x y) hi (mul_is f x y p q) r h

  pub div_bounded : T (positive y) → T (le (div f x y) hi) → T (unsigned (div f x y))
  div_bounded q h = bounded f (num x * den y) (num y * den x) (div f x y) hi (div_is f x y p q) r h
