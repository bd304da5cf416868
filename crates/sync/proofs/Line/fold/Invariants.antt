-- `sync::Line::fold` meets its contract. The loop's invariant: the columns of the blocks passed are added. Assumes nothing.
use Prim.Native.Nat.{◌*◌}
use lib.ListN.{get_or}
use lib.Ieee.{nan}
use Rattle.sync.specs.Fold.{flag_at}
use Rattle.sync.specs.Steps.{Added}
use Rattle.sync.proofs.Line.fold.Given as goal

abbrev pub invariant-loop-block : goal.invariant-loop-block
invariant-loop-block l = Added (λ k. flag_at l.self.flags.now l.self.rate l.self.start (get_or l.self.columns.now k nan)) (l.block * 28) l.initial.counts l.counts
