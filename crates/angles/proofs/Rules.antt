-- The rules of the angle tables: one computed test of the tables, and from it the rule at each entry. Assumes nothing.
use mathlib.Core.Path.{◌≡◌, refl}
use mathlib.Core.Bool.{true, false≢true, ◌&&◌}
use mathlib.Core.List.{List, [], ◌∷◌}
use Prim.Native.Nat.{ℕ, zero, suc, ◌+◌, ◌-◌, ◌*◌, ◌^◌, ◌<◌}
use native.Mathlib.Omega.{arith}
use lib.ListN.{length, get_or}
use lib.Dec.{leb}
use Rattle.std.proofs.lemmas.Bool.{and_parts, leb-true}
use lib.Ieee.{Float, nan, of_bits, lt}
use Rattle.angles.specs.Angle.{sine_table, sine_bits, cosine_table, cosine_bits, tangent_table, tangent_bits}
use Rattle.angles.specs.Rules.{Falls, falls, finite, squares, one, NearOne, Circle, near_one, circle}

-- cosine and tangent fall strictly, and the squares of sine and cosine sum to 1 within 2 ^ -50
pub rules : (falls cosine_table && falls tangent_table && circle sine_table cosine_table) ≡ true
unfolding falls circle sine_table sine_bits cosine_table cosine_bits tangent_table tangent_bits of_bits lt
rules = refl

-- ---- from a list's test to its entries

falls_at : (xs : List Float) → falls xs ≡ true → (q : ℕ) → suc q < length xs → lt (get_or xs (suc q) nan) (get_or xs q nan) ≡ true
unfolding falls
falls_at [] h q l = absurd (omega arith)
falls_at (x ∷ []) h q l = absurd (omega arith)
falls_at (x ∷ y ∷ xs) h zero l = (and_parts (lt y x) (falls (y ∷ xs)) h).0
falls_at (x ∷ y ∷ xs) h (suc q) l = falls_at (y ∷ xs) (and_parts (lt y x) (falls (y ∷ xs)) h).1 q (omega arith)

near_one_lem : (x y : Float) → near_one x y ≡ true → NearOne x y
near_one_lem x y h =
    let low = leb ((2 ^ 50 - 1) * one x y) (2 ^ 50 * squares x y) in
    let high = leb (2 ^ 50 * squares x y) ((2 ^ 50 + 1) * one x y) in
    let ends = and_parts (finite x && finite y && low) high h in
    let middle = and_parts (finite x && finite y) low ends.0 in
    let numbers = and_parts (finite x) (finite y) middle.0 in
    record {
      finite₁ = numbers.0;
      finite₂ = numbers.1;
      above = leb-true ((2 ^ 50 - 1) * one x y) (2 ^ 50 * squares x y) middle.1;
      below = leb-true (2 ^ 50 * squares x y) ((2 ^ 50 + 1) * one x y) ends.1;
    }

circle_at : (xs ys : List Float) → circle xs ys ≡ true → (q : ℕ) → q < length xs → NearOne (get_or xs q nan) (get_or ys q nan)
unfolding circle
circle_at [] ys h q l = absurd (omega arith)
circle_at (x ∷ xs) [] h q l = absurd (false≢true h)
circle_at (x ∷ xs) (y ∷ ys) h zero l = near_one_lem x y (and_parts (near_one x y) (circle xs ys) h).0
circle_at (x ∷ xs) (y ∷ ys) h (suc q) l = circle_at xs ys (and_parts (near_one x y) (circle xs ys) h).1 q (omega arith)

-- ---- the three tables have 240 entries

sine_length : length sine_table ≡ 240
unfolding sine_table sine_bits
sine_length = refl

cosine_length : length cosine_table ≡ 240
unfolding cosine_table cosine_bits
cosine_length = refl

tangent_length : length tangent_table ≡ 240
unfolding tangent_table tangent_bits
tangent_length = refl

-- ---- the rules

-- both tables fall, and the squares are near 1
parts : ((falls cosine_table && falls tangent_table) ≡ true) × (circle sine_table cosine_table ≡ true)
parts = and_parts (falls cosine_table && falls tangent_table) (circle sine_table cosine_table) rules

both_fall : (falls cosine_table ≡ true) × (falls tangent_table ≡ true)
both_fall = and_parts (falls cosine_table) (falls tangent_table) parts.0

pub cosine_falls : Falls cosine_table
cosine_falls q l = falls_at cosine_table both_fall.0 q (omega (arith, cosine_length))

pub tangent_falls : Falls tangent_table
tangent_falls q l = falls_at tangent_table both_fall.1 q (omega (arith, tangent_length))

pub squares_near : Circle sine_table cosine_table
squares_near q l = circle_at sine_table cosine_table parts.1 q (omega (arith, sine_length))
