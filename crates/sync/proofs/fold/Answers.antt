-- Answers of the goals that the check leaves.
use mathlib.Core.Path.{◌≡◌, refl, ◌∙◌}
use native.Mathlib.Omega.{arith}
use Rattle.pulse.proofs.Sums.{sum_none}
use Rattle.sync.specs.Fold.{line_seconds}
use Rattle.sync.proofs.Folding.{lines_more, fold_is, count_below}
use Rattle.sync.proofs.Rising.{line_rises}
use Rattle.sync.proofs.fold.Goals as goal

pub loop-y-init : goal.loop-y-init
loop-y-init c = (omega arith, λ x l. c.requires.clear x ∙ sum_none _ _)

pub invariant_of-line : goal.invariant_of-line
unfolding line_seconds
invariant_of-line c =
    let a = c.args in
    record { in_order = λ e. line_rises a.rate a.line c.column_seconds-columns.result c.loop-y.y (c.rises-rising.ensures e).0 (c.rises-rising.ensures e).1 c.column_seconds-columns.ensures }

pub fold-requires : goal.fold-requires
fold-requires c =
    let a = c.args in
    λ x b. rw (c.loop-y.invariant.1 x b) (count_below a.flags.now a.rate a.line c.loop-y.y x (λ i. (c.type_inv.flags i).fits) (omega arith))

pub loop-y-preserved : goal.loop-y-preserved
unfolding line_seconds
loop-y-preserved c =
    let a = c.args in
    (c.fold.ensures.size ∙ c.loop-y.invariant.0, lines_more a.flags.now a.rate a.line _ _ c.column_seconds-columns.result _ c.loop-y.y c.column_seconds-columns.ensures refl c.loop-y.invariant.1 c.fold.ensures)

pub returns : goal.returns
returns c =
    let a = c.args in
    let e : c.loop-y.y ≡ a.n = omega arith in
    fold_is a.flags.now c.loop-y.counts a.rate a.line a.n c.loop-y.invariant.0 (λ x b. rw (← e) (c.loop-y.invariant.1 x b))
