-- Which quotients and differences are no NaN. Assumes nothing.
use Rattle.std.proofs.Common.{◌≡◌, ℕ, ◌+◌, ◌-◌, ◌*◌, ◌<◌, Bool, true, false, cond, not, ◌&&◌, T, eqb, ltb, arith, eqb→eq, ltb→lt}
use mathlib.Core.Bool.{beq}
use lib.Ieee.{Float, nan, inf, fin, binary64, up, down, unlike, round, neg, sum, add, sub, div, is_nan}
use lib.Ieee.Scale.{finite}
use lib.Ieee.Positive.{positive}
use Rattle.ieee.proofs.Pack.{round_no_nan}

pub finite_number : (x : Float) → T (finite x) → T (not (is_nan x))
unfolding is_nan
finite_number nan p = absurd p
finite_number (inf s) p = absurd p
finite_number (fin s m e) p = tt

-- a number divided by a positive one
pub div_number : (x y : Float) → T (not (is_nan x)) → T (positive y) → T (not (is_nan (div binary64 x y)))
unfolding div is_nan
div_number nan y p q = absurd p
div_number (inf s) nan p q = absurd q
div_number (inf s) (inf t) p q = absurd q
div_number (inf s) (fin t n d) p q = tt
div_number (fin s m e) nan p q = absurd q
div_number (fin s m e) (inf t) p q = absurd q
div_number (fin s m e) (fin true n d) p q = absurd q
div_number (fin s m e) (fin false n d) p q = go (eqb n 0) (eqb m 0) (λ t. none n (ltb→lt 0 n q) (eqb→eq n 0 t))
  where
    none : (n : ℕ) → 0 < n → n ≡ 0 → ⊥
    none n h e = omega arith

    go : (a b : Bool) → (T a → ⊥)
        → T (not (is_nan (cond a (cond b nan (inf (unlike s false))) (round binary64 (unlike s false) (m * up e * down d) (n * up d * down e)))))
    go true b h = absurd (h tt)
    go false b h = round_no_nan binary64 (unlike s false) (m * up e * down d) (n * up d * down e)

-- a number less a finite one
pub sub_number : (x y : Float) → T (not (is_nan x)) → T (finite y) → T (not (is_nan (sub binary64 x y)))
unfolding sub add neg sum is_nan
sub_number nan y p q = absurd p
sub_number (inf s) nan p q = absurd q
sub_number (inf s) (inf t) p q = absurd q
sub_number (inf s) (fin t n d) p q = tt
sub_number (fin s m e) nan p q = absurd q
sub_number (fin s m e) (inf t) p q = absurd q
sub_number (fin s m e) (fin t n d) p q = go (beq s (not t)) (ltb a b)
  where
    a : ℕ
    a = m * up e * down d

    b : ℕ
    b = n * up d * down e

    go : (u v : Bool)
        → T (not (is_nan (cond u (round binary64 s (a + b) (down e * down d))
        (cond v (round binary64 (not t) (b - a) (down e * down d)) (round binary64 (s && ltb b a) (a - b) (down e * down d))))))
    go true v = round_no_nan binary64 s (a + b) (down e * down d)
    go false true = round_no_nan binary64 (not t) (b - a) (down e * down d)
    go false false = round_no_nan binary64 (s && ltb b a) (a - b) (down e * down d)
