-- `window_fold::add_bits` meets its contract. The loop's invariant: the counts before column x have their flag added, the others not yet.
-- Assumes nothing.
use Rattle.window_fold.specs.Steps.{added_to}
use Rattle.columns.proofs.Lists.{Mixed}
use Rattle.window_fold.proofs.add_bits.Given as goal

abbrev pub invariant-loop-x : goal.invariant-loop-x
invariant-loop-x l = Mixed (added_to l.window l.places l.initial.counts) l.initial.counts l.x l.counts
