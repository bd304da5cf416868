-- Answers of the goals that the check leaves.
use Rattle.std.proofs.Common.{◌≡◌, ℕ, ◌+◌, ◌-◌, ◌<◌, ◌≤◌, max, ◌&&◌, Bool, true, false, List, get_or, None, Some, sym, ap, refl, ◌∙◌, ◌^◌, rules, arith}
use lib.Ieee.{Float}
use Rattle.std.specs.declared.ops.Range.{Range}
use Rattle.std.specs.Bool.{then_some}
use Rattle.std.specs.Option.{is_some}
use Rattle.first_line.specs.Pulsed.{pulsed_line, span_of, pulse_at, run_to, run_needed}
use Rattle.first_line.specs.Steps.{run_with, enough}
use Rattle.first_line.proofs.Lines.{scanned_start, scanned_next, scanned_missing, scanned_found}
use Rattle.first_line.proofs.Runs.{run_most, run_next, longest_next, run_none, longest_none}
use Rattle.first_line.proofs.NarrowPulse.first_pair.Invariants.{Looked}
use Rattle.first_line.proofs.NarrowPulse.first_pair.Goals as goal

module _ (flags : List ℕ) (lo hi i run longest : ℕ) (k : Looked flags lo hi i run longest) where
  run_few : run ≤ i - lo
  run_few = rw k.run_is (run_most flags lo (i - lo))

  one_more : (run' longest' : ℕ) → lo ≤ i → i < hi → run' ≡ run_with run (get_or flags i 0) → longest' ≡ max longest run' → Looked flags lo hi (i + 1) run' longest'
  one_more run' longest' l h p q =
      let r : run' ≡ run_to flags lo (i + 1 - lo) = p ∙ ap (λ (n : ℕ). run_with n (get_or flags i 0)) k.run_is ∙ run_next flags lo i l in
      record { at_most = omega arith; run_is = r; longest_is = q ∙ longest_next flags lo i run' longest l k.longest_is r }

-- the flags of the whole span are looked at
judged : (flags : List ℕ) (line pulse need : Float) (a column y i run longest : ℕ) (s : Range ℕ) (t : Bool) → s ≡ span_of pulse (pulse_at line a column y)
    → need ≡ run_needed pulse → Looked flags s.start s.end i run longest → s.start ≤ i → s.end ≤ i → t ≡ enough need longest → t ≡ pulsed_line line pulse flags a column y
unfolding pulsed_line
judged flags line pulse need a column y i run longest s t e n k g h p =
    let l : i - s.start ≡ s.end - s.start = omega (arith, k.at_most) in
    rw (p, n, k.longest_is, l, e)

none_no_some : (y : ℕ) → None ≡ Some y → ⊥
none_no_some y e = search rules

is_some_then : (b : Bool) (n : ℕ) → is_some (then_some b n) ≡ b
is_some_then true n = refl
is_some_then false n = refl

then_some_is : (b : Bool) (n y : ℕ) → then_some b n ≡ Some y → y + 1 ≡ n + 1
then_some_is true n y e = search rules
then_some_is false n y e = absurd (none_no_some y e)

pub scan-init : goal.scan-init
scan-init c = (omega arith, (λ y e. absurd (none_no_some y e)), scanned_start _)

pub returns-then-line-lines : goal.returns-then-line-lines
returns-then-line-lines c = scanned_missing _ _ _ c.scan.invariant.2 _ c.if-line-lines.true

pub loop-i-init : goal.loop-i-init
loop-i-init c = (omega arith, refl, record { at_most = omega arith; run_is = run_none _ _; longest_is = longest_none _ _ })

pub run_on-run-requires : goal.run_on-run-requires
run_on-run-requires c =
    let i = c.loop-i.invariant in
    let few : c.loop-i.run ≤ c.loop-i.i-iterator.start - c.into_iter-i-iterator.result.start = run_few _ _ _ _ _ _ i.2 in
    let fits : c.into_iter-i-iterator.result.end < 2 ^ 64 = search rules in
    omega (arith, few, i.1, c.in-Some.ensures.steps.1.0, fits)

pub loop-i-preserved : goal.loop-i-preserved
loop-i-preserved c =
    let i = c.loop-i.invariant in
    let t = c.in-Some.ensures.steps in
    let within : c.loop-i.i-iterator.start < c.into_iter-i-iterator.result.end = omega (arith, i.1, t.1.0) in
    (omega (arith, i.0, t.1.2), t.0 ∙ i.1, rw t.1.2 (one_more _ _ _ _ _ _ i.2 _ _ i.0 within (rw (← t.1.1) c.run_on-run.ensures) c.max-longest.ensures))

pub scan-preserved : goal.scan-preserved
scan-preserved c =
    let s = c.scan in
    let i = c.loop-i.invariant in
    let e = judged _ _ _ _ _ _ _ _ _ _ c.into_iter-i-iterator.result _ (c.into_iter-i-iterator.ensures.into_iter_gives ∙ c.span_at-span.ensures) c.run_needed-need.ensures i.2 i.0 (omega (arith, i.1, c.in-None.ensures.steps.1.0)) c.is_enough-pulsed.ensures in
    let no_pair : is_some s.before && c.is_enough-pulsed.result ≡ false = search rules in
    let now : is_some c.then_some-before.result ≡ c.is_enough-pulsed.result = rw c.then_some-before.ensures (is_some_then _ _) in
    (omega arith, (λ y h. then_some_is _ _ _ (sym c.then_some-before.ensures ∙ h)), scanned_next _ _ _ s.invariant.2 _ (now ∙ e) (rw now no_pair))

pub returns : goal.returns
returns c =
    let s = c.scan in
    let i = c.loop-i.invariant in
    let e = judged _ _ _ _ _ _ _ _ _ _ c.into_iter-i-iterator.result _ (c.into_iter-i-iterator.ensures.into_iter_gives ∙ c.span_at-span.ensures) c.run_needed-need.ensures i.2 i.0 (omega (arith, i.1, c.in-None.ensures.steps.1.0)) c.is_enough-pulsed.ensures in
    let w = c.in-Some-true in
    let before : w.y ≡ s.line - 1 = omega (arith, s.invariant.1 w.y w.is-0) in
    rw before (scanned_found _ _ _ s.invariant.2 _ (omega arith) (rw w.is-0) (sym e ∙ c.is_enough-pulsed.ensures ∙ sym w.ensures))
