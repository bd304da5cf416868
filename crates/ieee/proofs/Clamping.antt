-- The bounds that `clamp` and `maximum` give. Assumes nothing.
use Rattle.std.proofs.Common.{◌≡◌, ℕ, ◌+◌, ◌*◌, ◌<◌, ◌≤◌, Bool, true, false, cond, not, ◌&&◌, ◌||◌, T, eqb, ltb, sym, refl, subst, arith, ltb→lt, lt→ltb, nltb→le}
use lib.Ieee.{Float, nan, inf, fin, Format, up, down, fits, is_nan, lt, eq, le, to_unsigned}
use lib.Ieee.Fits.{eq→eqb, cond-fits}
use Rattle.ieee.specs.Casts.{clamp, maximum}
use Rattle.ieee.proofs.Monotone.{to_unsigned_mono}

-- ---- of two numbers, one is at most the other
less_or_equal : (a b : ℕ) (q : Bool) → (a ≡ b → T q) → a ≤ b → T (ltb a b || q)
less_or_equal a b q e h = go (ltb a b) (lt→ltb a b)
  where
    same : (a < b → ⊥) → a ≡ b
    same k = omega arith

    go : (t : Bool) → (a < b → T t) → T (t || q)
    go true k = tt
    go false k = e (same k)

both : (p q : Bool) → T p → T q → T (p && q)
both true q s t = t
both false q s t = s

either : (p q : Bool) → T q → T (p || q)
either true q t = tt
either false q t = t

pub not_lt→le : (x y : Float) → T (not (is_nan x)) → T (not (is_nan y)) → T (not (lt y x)) → T (le x y)
unfolding le lt eq is_nan
not_lt→le nan y p q h = absurd p
not_lt→le (inf s) nan p q h = absurd q
not_lt→le (inf true) (inf true) p q h = tt
not_lt→le (inf true) (inf false) p q h = tt
not_lt→le (inf false) (inf true) p q h = absurd h
not_lt→le (inf false) (inf false) p q h = tt
not_lt→le (inf true) (fin t n d) p q h = tt
not_lt→le (inf false) (fin t n d) p q h = absurd h
not_lt→le (fin s m e) nan p q h = absurd q
not_lt→le (fin s m e) (inf true) p q h = absurd h
not_lt→le (fin s m e) (inf false) p q h = tt
not_lt→le (fin false m e) (fin false n d) p q h =
    let A = m * up e * down d in
    let B = n * up d * down e in
    less_or_equal A B (eqb A B && true) (λ (k : A ≡ B). both (eqb A B) true (eq→eqb k) tt) (nltb→le B A h)
not_lt→le (fin false m e) (fin true n d) p q h =
    let A = m * up e * down d in
    let B = n * up d * down e in
    both (eqb A B) (eqb A 0) (eq→eqb (same A B (nltb→le 0 (B + A) h))) (eq→eqb (none A B (nltb→le 0 (B + A) h)))
  where
    same : (a b : ℕ) → b + a ≤ 0 → a ≡ b
    same a b k = omega arith

    none : (a b : ℕ) → b + a ≤ 0 → a ≡ 0
    none a b k = omega arith
not_lt→le (fin true m e) (fin false n d) p q h = go (m * up e * down d) (n * up d * down e)
  where
    none : (a b : ℕ) → 0 ≡ a + b → a ≡ 0
    none a b k = omega arith

    same : (a b : ℕ) → 0 ≡ a + b → a ≡ b
    same a b k = omega arith

    nought : (a : ℕ) → 0 ≤ a
    nought a = omega arith

    go : (a b : ℕ) → T (ltb 0 (a + b) || (eqb a b && eqb a 0))
    go a b = less_or_equal 0 (a + b) (eqb a b && eqb a 0) (λ (k : 0 ≡ a + b). both (eqb a b) (eqb a 0) (eq→eqb (same a b k)) (eq→eqb (none a b k))) (nought (a + b))
not_lt→le (fin true m e) (fin true n d) p q h =
    let A = m * up e * down d in
    let B = n * up d * down e in
    less_or_equal B A (eqb A B && true) (λ (k : B ≡ A). both (eqb A B) true (eq→eqb (sym k)) tt) (nltb→le A B h)

pub lt→le : (x y : Float) → T (lt x y) → T (le x y)
unfolding le
lt→le x y h = go (lt x y) (eq x y) h
  where
    go : (a b : Bool) → T a → T (a || b)
    go true b t = tt
    go false b t = absurd t

-- what a comparison says of its sides: neither is a NaN
pub le_left : (x y : Float) → T (le x y) → T (not (is_nan x))
unfolding le lt eq is_nan
le_left nan y h = absurd h
le_left (inf s) y h = tt
le_left (fin s m e) y h = tt

pub le_right : (x y : Float) → T (le x y) → T (not (is_nan y))
unfolding le lt eq is_nan
le_right nan nan h = absurd h
le_right (inf s) nan h = absurd h
le_right (fin s m e) nan h = absurd h
le_right x (inf t) h = tt
le_right x (fin t n d) h = tt

not_self : (a : ℕ) → T (not (ltb a a))
not_self a = go (ltb a a) (ltb→lt a a)
  where
    no : a < a → ⊥
    no k = omega arith

    go : (t : Bool) → (T t → a < a) → T (not t)
    go true k = absurd (no (k tt))
    go false k = tt

never_less : (x : Float) → T (not (lt x x))
unfolding lt
never_less nan = tt
never_less (inf true) = tt
never_less (inf false) = tt
never_less (fin false m e) = not_self (m * up e * down e)
never_less (fin true m e) = not_self (m * up e * down e)

pub le_self : (x : Float) → T (not (is_nan x)) → T (le x x)
le_self x p = not_lt→le x x p p (never_less x)

-- ---- `clamp` of a number lies between the ends
module _ (x lo hi : Float) (p : T (not (is_nan x))) (h : T (le lo hi)) where
  raised : Float
  raised = cond (lt x lo) lo x

  raised_number : T (not (is_nan raised))
  unfolding raised
  raised_number = go (lt x lo)
    where
      go : (b : Bool) → T (not (is_nan (cond b lo x)))
      go true = le_left lo hi h
      go false = p

  raised_ge : T (le lo raised)
  unfolding raised
  raised_ge = go (lt x lo) (λ (t : T (not (lt x lo))). not_lt→le lo x (le_left lo hi h) p t)
    where
      go : (b : Bool) → (T (not b) → T (le lo x)) → T (le lo (cond b lo x))
      go true k = le_self lo (le_left lo hi h)
      go false k = k tt

  pub clamp_ge : T (le lo (clamp x lo hi))
  unfolding clamp raised
  clamp_ge = go (lt hi raised)
    where
      go : (b : Bool) → T (le lo (cond b hi raised))
      go true = h
      go false = raised_ge

  pub clamp_le : T (le (clamp x lo hi) hi)
  unfolding clamp raised
  clamp_le = go (lt hi raised) (λ (t : T (not (lt hi raised))). not_lt→le raised hi raised_number (le_right lo hi h) t)
    where
      go : (b : Bool) → (T (not b) → T (le raised hi)) → T (le (cond b hi raised) hi)
      go true k = le_self hi (le_right lo hi h)
      go false k = k tt

  -- and so does its cut
  pub cut_clamp : (w : ℕ) → (to_unsigned w lo ≤ to_unsigned w (clamp x lo hi)) × (to_unsigned w (clamp x lo hi) ≤ to_unsigned w hi)
  cut_clamp w = (to_unsigned_mono w lo (clamp x lo hi) clamp_ge, to_unsigned_mono w (clamp x lo hi) hi clamp_le)

pub clamp_fits : (f : Format) (x lo hi : Float) → T (fits f x) → T (fits f lo) → T (fits f hi) → T (fits f (clamp x lo hi))
unfolding clamp
clamp_fits f x lo hi p q r = cond-fits f (lt hi (cond (lt x lo) lo x)) hi (cond (lt x lo) lo x) r (cond-fits f (lt x lo) lo x q p)

-- ---- `maximum` of two numbers is at least each of them
module _ (x y : Float) (p : T (not (is_nan x))) (q : T (not (is_nan y))) where
  maximum_is : maximum x y ≡ cond (lt x y) y x
  unfolding maximum
  maximum_is = go (is_nan x) p
    where
      go : (b : Bool) → T (not b) → cond b y (cond (lt x y) y x) ≡ cond (lt x y) y x
      go true t = absurd t
      go false t = refl

  pub maximum_left : T (le x (maximum x y))
  maximum_left = subst (λ (z : Float). T (le x z)) (sym maximum_is) (go (lt x y) (lt→le x y))
    where
      go : (b : Bool) → (T b → T (le x y)) → T (le x (cond b y x))
      go true k = k tt
      go false k = le_self x p

  pub maximum_right : T (le y (maximum x y))
  maximum_right = subst (λ (z : Float). T (le y z)) (sym maximum_is) (go (lt x y) (not_lt→le y x q p))
    where
      go : (b : Bool) → (T (not b) → T (le y x)) → T (le y (cond b y x))
      go true k = le_self y q
      go false k = k tt
