-- A piece cut in two leaves the session that the piece whole leaves.
-- Assumes nothing.
use mathlib.Core.Path.{◌≡◌, refl, sym, ◌∙◌, ap}
use mathlib.Core.Bool.{◌||◌}
use mathlib.Core.List.{List, [], ◌∷◌, ◌++◌}
use Prim.Native.Nat.{ℕ, ◌*◌}
use native.Mathlib.Omega.{arith}
use lib.ListN.{length}
use lib.Ieee.{Float}
use Rattle.std.proofs.lemmas.Bool.Decides.{nat_tests}
use Rattle.std.proofs.lemmas.Grind.{common_steps}
use Rattle.std.specs.Prelude.{Ok}
use Rattle.limits.specs.Ranges.{any_above, any_unsound}
use Rattle.limits.proofs.AtMost.{at_most_append}
use Rattle.plain.specs.declared.Phase.{Phase}
use Rattle.plain.specs.Plain.{Setup, Plain, through}
use Rattle.plain.specs.Calls.{Lengths, feed, feed_refusal, memory_refusal, sound_refusal, order_refusal, after, run_to}
use Rattle.plain.proofs.Refusals.{Clean, clean_of, refusal_parts}
use Rattle.plain.proofs.Laws.{through_append, through_ended}
use Rattle.plain.proofs.Lists.{through_setup}

pub above_append : (xs ys : List ℕ) → any_above (xs ++ ys) ≡ any_above xs || any_above ys
above_append xs ys = grind (arith, at_most_append 1 xs ys)

unsound_append : (xs ys : List Float) → any_unsound (xs ++ ys) ≡ any_unsound xs || any_unsound ys
unfolding any_unsound
unsound_append [] ys = refl
unsound_append (x ∷ xs) ys = grind (arith, unsound_append xs ys)

clean_refusal : (fl : List ℕ) (ys : List Float) → Clean fl ys → sound_refusal fl ys ≡ Ok tt
unfolding sound_refusal
clean_refusal fl ys h = grind (arith, nat_tests)

clean_parts : (xs xs' : List ℕ) (ys ys' : List Float) → length ys ≡ 4 * length xs → Clean (xs ++ xs') (ys ++ ys') → Clean xs ys × Clean xs' ys'
clean_parts xs xs' ys ys' four h = (
  record { short = grind (arith, common_steps); four = four; flags = grind (arith, above_append xs xs'); samples = grind (arith, unsound_append ys ys') },
  record {
    short = grind (arith, common_steps);
    four = grind (arith, common_steps);
    flags = grind (arith, above_append xs xs');
    samples = grind (arith, unsound_append ys ys');
  },
)

refusal_of_lem : (u : Setup) (h : Phase) (m : Lengths) (fl : List ℕ) (ys : List Float) → memory_refusal u.mode u.capacity m ≡ Ok tt
    → sound_refusal fl ys ≡ Ok tt → feed_refusal u h m fl ys ≡ order_refusal h
unfolding feed_refusal
refusal_of_lem u h m fl ys a b = rw (a, b)

-- a session that has ended refuses the feed, and takes nothing of the piece either
feed_on : (p : Plain) (m : Lengths) (fl : List ℕ) (ys : List Float) → memory_refusal p.setup.mode p.setup.capacity m ≡ Ok tt → sound_refusal fl ys ≡ Ok tt
    → after p (feed m fl ys) ≡ through p fl ys
feed_on p m fl ys a b = grind (arith, refusal_of_lem p.setup p.phase m fl ys a b, through_ended p fl ys)

-- the session after a piece cut in two is the session after the piece whole, and so is its point
pub cut_in_two : (p : Plain) (m : Lengths) (xs xs' : List ℕ) (ys ys' : List Float) → length ys ≡ 4 * length xs
    → feed_refusal p.setup p.phase m (xs ++ xs') (ys ++ ys') ≡ Ok tt
    → run_to p (feed m xs ys ∷ feed m xs' ys' ∷ []) ≡ run_to p (feed m (xs ++ xs') (ys ++ ys') ∷ [])
unfolding run_to
cut_in_two p m xs xs' ys ys' four e =
    let k = refusal_parts p.setup p.phase m (xs ++ xs') (ys ++ ys') e in
    let clean = clean_parts xs xs' ys ys' four (clean_of (xs ++ xs') (ys ++ ys') k.1) in
    let left : after p (feed m xs ys) ≡ through p xs ys = feed_on p m xs ys k.0 (clean_refusal xs ys clean.0) in
    let q : Plain = through p xs ys in
    let kept : q.setup ≡ p.setup = through_setup p xs ys in
    let right : after q (feed m xs' ys') ≡ through q xs' ys' =
    feed_on q m xs' ys' (ap (λ (u : Setup). memory_refusal u.mode u.capacity m) kept ∙ k.0) (clean_refusal xs' ys' clean.1) in
    ap (λ (z : Plain). after z (feed m xs' ys')) left
    ∙ right
    ∙ sym (through_append p xs xs' ys ys' four)
    ∙ sym (feed_on p m (xs ++ xs') (ys ++ ys') k.0 k.1)
