-- The pulse columns among n are at least 1 and at most n, or 1 where n is 0: `clamp` holds them there.
-- Assumes nothing.
use Rattle.std.proofs.Common.{◌≡◌, ℕ, zero, suc, ◌+◌, ◌-◌, ◌*◌, ◌/◌, ◌^◌, ◌<◌, ◌≤◌, min, max, Bool, true, false, cond, T, ltb, ℤ, pos, sym, refl, ◌∙◌, true≢false, le_trans, le_of_eq, mul-le-mul_right, mul_comm, one-mul, le-div_iff_mul-le, mul-one, arith, lit≤, nltb→le}
use native.Mathlib.Nat.{div-le_of_le-mul}
use lib.Ieee.{Float, nan, inf, fin, Format, binary64, prec, emax, low, up, down, unlike, units, odd, round, mul, div, lt, to_unsigned, of_int}
use lib.Ieee.Fits.{down_pos}
use lib.Ieee.Exact.{HasValue}
use lib.Ieee.Back.{round_whole}
use lib.Ieee.Positive.{positive}
use Rattle.ieee.specs.Numbers.{of_nat}
use Rattle.ieee.specs.Casts.{round_away, clamp}
use Rattle.ieee.proofs.Ceil.{ge_whole}
use Rattle.ieee.proofs.Order.{no}
use Rattle.modespec.specs.ModeSpec.{spec_of}
use Rattle.modespec.specs.Sizes.{pulse_columns}
use Rattle.modespec.proofs.Rows.{Within, pulse_share}

-- ---- what is rounded is a number

data Number : Float → Type 0 where
  finite : (s : Bool) (m : ℕ) (e : ℤ) → Number (fin s m e)
  infinite : (s : Bool) → Number (inf s)

either : {x y : Float} (b : Bool) → Number x → Number y → Number (cond b x y)
either true p q = p
either false p q = q

odd_number : (d : ℕ) (s : Bool) (q k l : ℕ) → Number (odd d s q k l)
unfolding odd
odd_number d s zero k l = finite _ _ _
odd_number d s (suc q) k l = finite _ _ _

units_number : (f : Format) (s : Bool) (q k : ℕ) → Number (units f s q k)
unfolding units
units_number f s q k = either (ltb (q * 2 ^ k) (2 ^ (low f + suc (emax f)))) (odd_number (suc (prec f)) s q k (low f)) (infinite s)

round_number : (f : Format) (s : Bool) (a b : ℕ) → Number (round f s a b)
unfolding round
round_number f s a b = units_number f s _ _

away_number : {x : Float} → Number x → Number (round_away binary64 x)
unfolding round_away
away_number (infinite s) = infinite s
away_number (finite s m e) = round_number binary64 s ((m * up e * 2 + down e) / (down e * 2)) 1

mul_number : (x y : Float) (n : ℕ) → T (positive x) → HasValue y false n 1 → Number (mul binary64 x y)
unfolding mul
mul_number nan y n p h = absurd p
mul_number (inf s) y n p h = absurd p
mul_number (fin s m e) nan n p h = absurd h
mul_number (fin s m e) (inf t) n p h = absurd h
mul_number (fin s m e) (fin t k d) n p h = round_number binary64 (unlike s t) (m * up e * (k * up d)) (down e * down d)

whole_value : (n : ℕ) → n ≤ 65536 → HasValue (of_nat n) false n 1
unfolding of_int
whole_value n h = round_whole binary64 false n (le_trans h (lit≤ tt))

-- ---- what `clamp` gives is one of its ends, or x between them

abbrev one : Float
one = fin false 1 (pos 0)

pick : (b : Bool) {x y : Float} (P : Float → Type 0) → P x → (b ≡ false → P y) → P (cond b x y)
pick true P p q = p
pick false P p q = q refl

held : (x h : Float) (P : Float → Type 0) → P one → P h → (lt x one ≡ false → lt h x ≡ false → P x) → P (clamp x one h)
unfolding clamp
held x h P p q r = go (lt x one) refl
  where
    go : (b : Bool) → lt x one ≡ b → P (let y = cond b one x in cond (lt h y) h y)
    go true e = pick (lt h one) P q (λ _. p)
    go false e = pick (lt h x) P q (r e)

-- ---- cut, each of the three is from 1 to k

abbrev Columns : ℕ → Float → Type 0
Columns k x = Within 1 k (to_unsigned 64 x)

least : (x k : ℕ) → 1 ≤ x → x ≤ k → Within 1 k (min x (2 ^ 64 - 1))
least x k l u = record { low = omega arith; high = omega arith }

cut : (k a d : ℕ) → 0 < d → d ≤ a → a ≤ k * d → Within 1 k (min (a / d) (2 ^ 64 - 1))
cut k a d hd lo hi =
    least (a / d) k ((le-div_iff_mul-le hd).1 (rw (one-mul d) lo)) (div-le_of_le-mul d (rw (mul_comm d k) hi))

one_columns : (k : ℕ) → 1 ≤ k → Columns k one
unfolding to_unsigned
one_columns k h = record { low = lit≤ tt; high = h }

top_columns : (h : Float) (k : ℕ) → 1 ≤ k → HasValue h false k 1 → Columns k h
unfolding to_unsigned
top_columns nan k l v = absurd v
top_columns (inf s) k l v = absurd v
top_columns (fin true m e) k l v = absurd (true≢false v.0)
top_columns (fin false m e) k l v =
    let v' : m * up e ≡ k * down e = sym (mul-one (m * up e)) ∙ v.1 in
    cut k (m * up e) (down e) (down_pos e) (rw v' (rw one-mul at (mul-le-mul_right (down e) l))) (le_of_eq v')

under_inf : (h : Float) (k : ℕ) → HasValue h false k 1 → lt h (inf false) ≡ true
unfolding lt
under_inf nan k v = absurd v
under_inf (inf s) k v = absurd v
under_inf (fin s m e) k v = refl

below_one : lt (inf true) one ≡ false → ⊥
unfolding lt
below_one a = true≢false a

nothing : (a d : ℕ) → 0 < d → a * 1 + 1 * d ≤ 0 → ⊥
nothing a d h l = omega arith

from_one : (a d : ℕ) → 1 * d ≤ a * 1 → d ≤ a
from_one a d l = omega arith

negative : (m : ℕ) (e : ℤ) → lt (fin true m e) one ≡ false → ⊥
unfolding lt
negative m e a = nothing (m * up e) (down e) (down_pos e) (nltb→le 0 (m * up e * 1 + 1 * down e) (no a))

least_one : (m : ℕ) (e : ℤ) → lt (fin false m e) one ≡ false → down e ≤ m * up e
unfolding lt
least_one m e a = from_one (m * up e) (down e) (nltb→le (m * up e * 1) (1 * down e) (no a))

between_columns : {x : Float} → Number x → (h : Float) (k : ℕ) → HasValue h false k 1 → lt x one ≡ false → lt h x ≡ false → Columns k x
unfolding to_unsigned
between_columns (infinite true) h k v a b = absurd (below_one a)
between_columns (infinite false) h k v a b = absurd (true≢false (sym (under_inf h k v) ∙ b))
between_columns (finite true m e) h k v a b = absurd (negative m e a)
between_columns (finite false m e) h k v a b = cut k (m * up e) (down e) (down_pos e) (least_one m e a) (ge_whole h k m e v (no b))

-- ---- the law

most : (n : ℕ) → n ≤ 65536 → Within 1 65536 (max n 1)
most n h = record { low = omega arith; high = omega arith }

of_share : (q : Float) (n : ℕ) → T (positive q) → n ≤ 65536 → Columns (max n 1) (clamp (round_away binary64 (mul binary64 q (of_nat n))) one (of_nat (max n 1)))
of_share q n p h =
    let k = max n 1 in
    let v : HasValue (of_nat k) false k 1 = whole_value k (most n h).high in
    let x : Number (round_away binary64 (mul binary64 q (of_nat n))) = away_number (mul_number q (of_nat n) n p (whole_value n h)) in
    held (round_away binary64 (mul binary64 q (of_nat n))) (of_nat k) (Columns k) (one_columns k (most n h).low) (top_columns (of_nat k) k (most n h).low v)
    (between_columns x (of_nat k) k v)

pub pulse_columns_lem : (mode n : ℕ) → n ≤ 65536 → Within 1 (max n 1) (pulse_columns (spec_of mode) n)
unfolding pulse_columns
pulse_columns_lem mode n h = of_share (div binary64 (spec_of mode).sync_seconds (spec_of mode).line_seconds) n (pulse_share mode) h
