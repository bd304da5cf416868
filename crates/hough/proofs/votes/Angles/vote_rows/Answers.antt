-- Answers of the goals that the check leaves.
use mathlib.Core.Path.{refl}
use Rattle.hough.proofs.Counting.{count_more}
use Rattle.hough.proofs.votes.Angles.vote_rows.Goals as goal

pub loop-y-preserved : goal.loop-y-preserved
loop-y-preserved c = count_more _ _ _ _ c.loop-y.y _ c.loop-y.invariant c.vote_row-best.ensures refl
