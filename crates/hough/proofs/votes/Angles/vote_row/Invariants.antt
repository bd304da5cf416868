-- `hough::votes::Angles::vote_row` meets its contract. The loop's invariant: the votes of the pixels passed are counted. Assumes nothing.
use mathlib.Core.Path.{◌≡◌}
use Rattle.hough.specs.Steps.{tally_of, counted_all, shown_row}
use Rattle.hough.proofs.votes.Angles.vote_row.Given as goal

abbrev pub invariant-loop-x : goal.invariant-loop-x
invariant-loop-x l = tally_of l.votes l.best ≡ counted_all (tally_of l.initial.votes l.initial.best) (shown_row l.img l.self.w l.y l.x)
