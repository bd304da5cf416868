-- `sync::Line::fold_block` meets its contract. The loop's invariant: the columns passed are added. Assumes nothing.
use lib.ListN.{get_or}
use lib.Ieee.{nan}
use Rattle.sync.specs.Fold.{flag_at}
use Rattle.sync.specs.Steps.{AddedIn}
use Rattle.sync.proofs.Line.fold_block.Given as goal

abbrev pub invariant-loop-x : goal.invariant-loop-x
invariant-loop-x l = AddedIn (λ k. flag_at l.self.flags.now l.self.rate l.self.start (get_or l.self.columns.now k nan)) l.from l.x l.initial.counts l.counts
