-- Laws of the test of samples: not finite or beyond 1, by two comparisons, and along a list.
-- Assumes nothing.
use mathlib.Core.Path.{◌≡◌, refl, sym, ◌∙◌, ap}
use mathlib.Core.Bool.{Bool, true, false, true≢false, ◌&&◌, ◌||◌}
use mathlib.Core.List.{List, [], ◌∷◌}
use Prim.Native.Nat.{ℕ, ◌+◌, ◌*◌, ◌≤◌}
use native.Mathlib.Omega.{arith}
use lib.Dec.{ltb, eqb}
use Rattle.std.specs.List.{list_any}
use lib.IntN.{pos}
use lib.Ieee.{Float, nan, inf, fin, up, down, lt, eq, le}
use borrow.Author.Tests.{ltb-true, ltb-false, eqb-true, eqb-false, lt-ltb, le-ltb, eq-eqb}
use Rattle.limits.specs.Ranges.{unsound, any_unsound}

abbrev pub low : Float
low = fin true 1 (pos 0)

abbrev pub high : Float
high = fin false 1 (pos 0)

-- ---- a and b are the magnitude and 1 over one denominator

mid_pos : (a b : ℕ) (t u : Bool) → ltb a b ≡ t → eqb a b ≡ u → t || u && true ≡ true → ltb b a ≡ false
mid_pos a b true u h g e = le-ltb b a (let k = ltb-true a b h in omega arith)
mid_pos a b false true h g e = le-ltb b a (let k = eqb-true a b g in omega arith)
mid_pos a b false false h g e = absurd (true≢false (sym e))

high_pos : (a b : ℕ) (t u : Bool) → ltb a b ≡ t → eqb a b ≡ u → t || u && true ≡ false → ltb b a ≡ true
high_pos a b true u h g e = absurd (true≢false e)
high_pos a b false true h g e = absurd (true≢false e)
high_pos a b false false h g e =
    let k = ltb-false a b h in
    let no : a ≡ b → ⊥ = eqb-false a b g in
    lt-ltb b a (omega arith)

high_neg : (a b : ℕ) (t : Bool) → ltb 0 (a + b) ≡ t → t || eqb a b && eqb a 0 ≡ false → ⊥
high_neg a b true h e = true≢false e
high_neg a b false h e =
    let k : a + b ≤ 0 = ltb-false 0 (a + b) h in
    let same : eqb a b ≡ true = eq-eqb a b (omega arith) in
    let none : eqb a 0 ≡ true = eq-eqb a 0 (omega arith) in
    true≢false (sym (ap (λ (v : Bool). v && eqb a 0) same ∙ none) ∙ e)

-- ---- below -1, up to 1, and above it

pub sound_low : (x : Float) → lt x low ≡ true → unsound x ≡ true
unfolding lt unsound
sound_low nan e = refl
sound_low (inf s) e = refl
sound_low (fin true m z) e = e
sound_low (fin false m z) e = absurd (true≢false (sym e))

pub sound_mid : (x : Float) → lt x low ≡ false → le x high ≡ true → unsound x ≡ false
unfolding le lt eq unsound
sound_mid nan h e = absurd (true≢false (sym e))
sound_mid (inf true) h e = absurd (true≢false h)
sound_mid (inf false) h e = absurd (true≢false (sym e))
sound_mid (fin true m z) h e = h
sound_mid (fin false m z) h e = mid_pos (m * up z * 1) (1 * down z) (ltb (m * up z * 1) (1 * down z)) (eqb (m * up z * 1) (1 * down z)) refl refl e

pub sound_high : (x : Float) → lt x low ≡ false → le x high ≡ false → unsound x ≡ true
unfolding le lt eq unsound
sound_high nan h e = refl
sound_high (inf s) h e = refl
sound_high (fin true m z) h e = absurd (high_neg (m * up z * 1) (1 * down z) (ltb 0 (m * up z * 1 + 1 * down z)) refl e)
sound_high (fin false m z) h e = high_pos (m * up z * 1) (1 * down z) (ltb (m * up z * 1) (1 * down z)) (eqb (m * up z * 1) (1 * down z)) refl refl e

-- ---- a list, sample by sample

pub unsound_any : (xs : List Float) → list_any unsound xs ≡ any_unsound xs
unfolding any_unsound
unsound_any [] = refl
unsound_any (x ∷ xs) = ap (λ (b : Bool). unsound x || b) (unsound_any xs)
