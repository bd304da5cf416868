-- `hough::votes::Angles::vote_rows` meets its contract. The loop's invariant: the votes of the rows passed are counted. Assumes nothing.
use mathlib.Core.Path.{◌≡◌}
use Rattle.hough.specs.Steps.{tally_of, counted_all, shown_all}
use Rattle.hough.proofs.votes.Angles.vote_rows.Given as goal

abbrev pub invariant-loop-y : goal.invariant-loop-y
invariant-loop-y l = tally_of l.votes l.best ≡ counted_all (tally_of l.initial.votes l.initial.best) (shown_all l.img l.self.w l.y)
