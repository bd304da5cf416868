-- The loop's invariant: the running value is the difference at the column before x, and the best is the first of the largest falls so far. Assumes nothing.
use Rattle.std.proofs.Common.{◌≡◌, ◌-◌}
use Rattle.pulse.specs.Sums.{FirstLargest}
use Rattle.pulse.specs.Edge.{fall_at}
use Rattle.pulse.specs.Sliding.{difference_at}
use Rattle.pulse.proofs.steepest.Given as goal

abbrev pub invariant-loop-x : goal.invariant-loop-x
invariant-loop-x l = (l.difference ≡ difference_at l.counts (l.x - 1)) × FirstLargest (fall_at l.counts) l.x l.best.at l.best.fall
