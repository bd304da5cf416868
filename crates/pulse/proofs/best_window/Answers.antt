-- Answers of the goals that the check leaves.
use Rattle.std.proofs.Common.{◌≡◌, ℕ, ◌+◌, ◌-◌, ◌%◌, ◌≤◌, ◌<◌, ◌∙◌, List, length, get_or, arith}
use Rattle.pulse.specs.PulseWindow.{window_sum}
use Rattle.pulse.proofs.Sums.{sum_taken, window_straight, window_next, window_below}
use Rattle.pulse.proofs.Largest.{best_one, better_more, best_is, count_most}
use Rattle.pulse.proofs.best_window.Goals as goal

-- the two sums and the two counts
next : (counts : List ℕ) (width start sum enters : ℕ) → 1 ≤ start → start < length counts → 1 ≤ width → sum ≡ window_sum counts width (start - 1)
    → enters ≡ (start + width - 1) % length counts
    → window_sum counts width start + get_or counts (start - 1) 0 ≡ sum + get_or counts enters 0
next counts width start sum enters a b w p e = rw (p, e) (window_next counts width start a b w)

pub loop-start-init : goal.loop-start-init
loop-start-init c =
    let a = c.args in
    let f = window_sum a.counts.now a.width in
    let e : c.sum_of-sum.result ≡ f 0 = c.sum_of-sum.ensures ∙ sum_taken a.counts.now 0 a.width (omega arith) ∙ window_straight a.counts.now a.width (omega arith) in
    (e, best_one f _ e)

pub better-best-requires : goal.better-best-requires
better-best-requires c =
    let l = c.loop-start in
    let a = c.args in
    let m = count_most (window_sum a.counts.now a.width) l.best.sum l.start in
    let e = l.invariant.1.count in
    omega arith

pub overflow_add-sum : goal.overflow_add-sum
overflow_add-sum c =
    let a = c.args in
    omega (arith, c.type_inv.counts c.wrapped-enters.result, window_below a.counts.now a.width (c.loop-start.start - 1) (λ k. (c.type_inv.counts k).fits) (omega arith))

pub overflow_sub-sum : goal.overflow_sub-sum
overflow_sub-sum c =
    let a = c.args in
    let l = c.loop-start in
    omega (arith, next a.counts.now a.width l.start l.sum c.wrapped-enters.result (omega arith) (omega arith) (omega arith) l.invariant.0 c.wrapped-enters.ensures)

pub loop-start-preserved : goal.loop-start-preserved
loop-start-preserved c =
    let a = c.args in
    let l = c.loop-start in
    let f = window_sum a.counts.now a.width in
    let e : l.start + 1 - 1 ≡ l.start = omega arith in
    let s : l.sum + c.from.result - c.from-in-loop-start.result ≡ f l.start =
    omega (arith, next a.counts.now a.width l.start l.sum c.wrapped-enters.result (omega arith) (omega arith) (omega arith) l.invariant.0 c.wrapped-enters.ensures) in
    (rw e s, rw c.better-best.ensures (better_more f l.start _ l.best s l.invariant.1))

pub returns : goal.returns
returns c =
    let a = c.args in
    let e : c.loop-start.start ≡ length a.counts.now = omega arith in
    best_is a.counts.now a.width c.loop-start.best (rw (← e) c.loop-start.invariant.1)
