-- Answers of the goals that the check leaves.
use Rattle.std.proofs.Common.{◌≡◌, ◌+◌, ◌-◌, sym, ap, ◌∙◌, arith}
use Rattle.limits.proofs.Signed.{given_as}
use Rattle.pulse.specs.Edge.{fall_at}
use Rattle.pulse.specs.Sliding.{difference_at, not_negative}
use Rattle.pulse.proofs.Largest.{first_one, steeper_more}
use Rattle.pulse.proofs.Sliding.{difference_falls, difference_step, difference_below}
use Rattle.pulse.proofs.steepest.Goals as goal

pub loop-x-init : goal.loop-x-init
loop-x-init c =
    let counts = c.args.counts.now in
    let e = given_as c.first_difference-difference.type_inv c.first_difference-difference.ensures in
    (e, rw (c.clipped.ensures ∙ ap not_negative e ∙ difference_falls counts 0) (first_one (fall_at counts)))

pub slide-difference-requires : goal.slide-difference-requires
slide-difference-requires c =
    rw c.loop-x.invariant.0 (difference_below c.args.counts.now c.fits-counts (c.loop-x.x - 1))

pub loop-x-preserved : goal.loop-x-preserved
loop-x-preserved c =
    let counts = c.args.counts.now in
    let x = c.loop-x.x in
    let i : x ≡ x + 1 - 1 = omega arith in
    let e = given_as c.slide-difference.type_inv (c.slide-difference.ensures ∙ rw c.loop-x.invariant.0 (sym (difference_step counts x (omega arith)))) in
    let f = c.clipped-in-loop-x.ensures ∙ ap not_negative e ∙ difference_falls counts x in
    (e ∙ ap (difference_at counts) i, rw c.steeper-best.ensures (steeper_more (fall_at counts) x _ c.loop-x.best f c.loop-x.invariant.1))

pub returns : goal.returns
returns c = let e : c.loop-x.x ≡ 692 = omega arith in rw e at c.loop-x.invariant.1
