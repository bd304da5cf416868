-- `hough::votes::Angles::vote_pixel` meets its contract. The loop's invariant: the votes for the angles passed are counted, and the sines and
-- cosines of the others are left. Assumes nothing.
use Rattle.std.proofs.Common.{◌≡◌, ◌≤◌, drop}
use Rattle.std.specs.Iterator.Adapters.{enumerate_source, enumerate_count, zip_first, zip_second}
use Rattle.std.specs.Slice.Iter.{iter_rest}
use Rattle.hough.specs.Pass.{angle_votes}
use Rattle.hough.specs.Steps.{tally_of, counted_all}
use Rattle.hough.proofs.votes.Angles.vote_pixel.Given as goal

abbrev pub invariant-loop-q : goal.invariant-loop-q
invariant-loop-q l =
    let q = enumerate_count l.q-iterator in
    (tally_of l.votes l.best ≡ counted_all (tally_of l.initial.votes l.initial.best) (angle_votes l.self.w l.x l.y q))
    × (q ≤ 240) × (iter_rest (zip_first (enumerate_source l.q-iterator)) ≡ drop q l.self.sines)
    × (iter_rest (zip_second (enumerate_source l.q-iterator)) ≡ drop q l.self.cosines)
