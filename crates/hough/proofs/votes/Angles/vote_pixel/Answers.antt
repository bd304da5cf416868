-- Answers of the goals that the check leaves.
use mathlib.Core.Path.{◌≡◌, ap, sym, ◌∙◌}
use mathlib.Core.Logic.{inl, inr}
use mathlib.Core.List.{List, ◌∷◌}
use Prim.Native.Nat.{ℕ, suc, ◌+◌, ◌-◌, ◌<◌, ◌≤◌}
use native.Mathlib.Omega.{arith}
use native.Mathlib.Numerals.{add-one}
use borrow.Author.Rules.{rules}
use lib.ListN.{get_or, length, drop, length-drop}
use lib.Seq.{drop-cons}
use lib.Ieee.{Float, nan, binary64, add, mul, neg}
use Rattle.std.specs.Iterator.Adapters.{enumerate_count}
use Rattle.ieee.specs.Numbers.{of_nat}
use Rattle.angles.specs.Angle.{sine_table, cosine_table}
use Rattle.hough.specs.Pass.{offset_by, offset_at, vote_for, angle_votes}
use Rattle.hough.specs.Steps.{listed, tally_of, counted_all}
use Rattle.hough.proofs.Counting.{count_none, count_more}
use Rattle.hough.proofs.Offsets.{offset_of}
use Rattle.hough.proofs.votes.Angles.vote_pixel.Goals as goal

-- the next of what is left of a list from q on
module _ {A : Type 0} (xs left rest : List A) (q : ℕ) (x : A) (l : left ≡ drop q xs) (n : left ≡ x ∷ rest) where
  more : q < length xs
  more =
      let e : length (drop q xs) ≡ length (x ∷ rest) = ap length (sym l ∙ n) in
      omega (arith, sym (length-drop q xs) ∙ e)

  next_is : (d : A) → x ≡ get_or xs q d
  next_is d = let e : get_or xs q d ∷ drop (suc q) xs ≡ x ∷ rest = sym (drop-cons xs q d more) ∙ sym l ∙ n in cc

  rest_is : rest ≡ drop (q + 1) xs
  rest_is = let e : get_or xs q x ∷ drop (suc q) xs ≡ x ∷ rest = sym (drop-cons xs q x more) ∙ sym l ∙ n in rw add-one cc

none_left : {A : Type 0} (xs left : List A) (q : ℕ) → left ≡ drop q xs → length left ≡ 0 → length xs ≡ 240 → q ≤ 240 → q ≡ 240
none_left xs left q l n long few =
    let e : length xs - q ≡ 0 = sym (length-drop q xs) ∙ ap length (sym l) ∙ n in
    omega (arith, e, long, few)

at_tables : (w x y q : ℕ) (s k : List Float) (sine cosine : Float) → s ≡ sine_table → k ≡ cosine_table → sine ≡ get_or s q nan → cosine ≡ get_or k q nan
    → offset_of w (add binary64 (mul binary64 (neg (of_nat x)) sine) (mul binary64 (of_nat y) cosine)) ≡ offset_at w x y q
unfolding offset_at offset_by
at_tables w x y q s k sine cosine e f g h = rw (g, h, e, f)

pub loop-q-init : goal.loop-q-init
loop-q-init c =
    let z : enumerate_count c.into_iter-q-iterator.result ≡ 0 = search rules in
    (rw z (count_none _ _), omega (arith, z), rw z (search rules), rw z (search rules))

pub loop-q-preserved : goal.loop-q-preserved
loop-q-preserved c =
    let a = c.args in
    let s = a.self.now in
    let i = c.loop-q.invariant in
    let t = c.in-Some.ensures.steps in
    let q = enumerate_count c.loop-q.q-iterator in
    let long : length s.sines ≡ 240 = search rules in
    let within : q < length s.sines = more s.sines _ _ q _ i.2 t.0.0 in
    let e : listed c.vote_at.result ≡ vote_for (of_nat s.w) (offset_at s.w a.x a.y q) q =
    rw (← t.1)
    (c.vote_at.ensures.0
    ∙ ap (λ (z : Float). vote_for (of_nat s.w) z c.in-Some.q)
    (at_tables s.w a.x a.y c.in-Some.q s.sines s.cosines _ _ s.sine s.cosine (rw t.1 (next_is s.sines _ _ q _ i.2 t.0.0 nan)) (rw t.1 (next_is s.cosines _ _ q _ i.3 t.0.1 nan)))) in
    (rw t.2 (count_more _ _ _ _ q _ i.0 c.count_vote-best.ensures e), omega (arith, t.2, within, long), rw t.2 (rest_is s.sines _ _ q _ i.2 t.0.0), rw t.2 (rest_is s.cosines _ _ q _ i.3 t.0.1))

pub returns : goal.returns
returns c =
    let a = c.args in
    let s = a.self.now in
    let i = c.loop-q.invariant in
    let q = enumerate_count c.loop-q.q-iterator in
    let sines : length s.sines ≡ 240 = search rules in
    let cosines : length s.cosines ≡ 240 = search rules in
    let full : q ≡ 240 =
    elim c.in-None.ensures.steps.0 [
      | inl h ↦ none_left s.sines _ q i.2 h.1.0 sines i.1
      | inr h ↦ none_left s.cosines _ q i.3 h.1.0 cosines i.1
    ] in
    i.0 ∙ ap (λ (n : ℕ). counted_all (tally_of a.votes.now a.leader) (angle_votes s.w a.x a.y n)) full
