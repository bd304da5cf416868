-- Answers of the goals that the check leaves.
use Rattle.std.proofs.Common.{◌≡◌, ◌+◌, ◌-◌, ◌/◌, ◌≤◌, length, arith, rules}
use Rattle.std.specs.List.{All}
use Rattle.pulse.specs.Median.{count_at_most}
use Rattle.pulse.proofs.Sorting.{count_all, count_mono, median_is}
use Rattle.pulse.proofs.median.Goals as goal

pub loop-low-init : goal.loop-low-init
loop-low-init c =
    let k = c.args.counts.now in
    let b : All (λ x. x ≤ c.unwrap_or-high.result) k = search rules in
    let e : count_at_most c.unwrap_or-high.result k ≡ length k = count_all c.unwrap_or-high.result k (λ i l. b i 0 l) in
    (omega arith, omega (arith, c.unwrap_or-high.type_inv), omega arith, λ v l. absurd (omega arith))

pub loop-low-preserved : goal.loop-low-preserved
loop-low-preserved c =
    let k = c.args.counts.now in
    let m = c.loop-low.low + (c.loop-low.high - c.loop-low.low) / 2 in
    let h : count_at_most m k ≤ length k / 2 = rw (← c.count_at_most.ensures) c.if-count_at_most-half.false in
    (omega arith, omega arith, c.loop-low.invariant.2, λ v b. let d : v ≤ m = omega arith in omega (arith, count_mono v m k d))

pub returns : goal.returns
returns c =
    let e : c.loop-low.high ≡ c.loop-low.low = omega arith in
    let a = rw e at c.loop-low.invariant.2 in
    median_is c.args.counts.now c.loop-low.low a c.loop-low.invariant.3
