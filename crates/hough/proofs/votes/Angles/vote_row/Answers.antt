-- Answers of the goals that the check leaves.
use mathlib.Core.Path.{◌≡◌}
use mathlib.Core.List.{[]}
use Rattle.hough.specs.Pass.{angle_votes}
use Rattle.hough.specs.Steps.{tally_of, counted_all}
use Rattle.hough.proofs.Counting.{count_more, count_nothing, shown_yes, shown_no}
use Rattle.hough.proofs.votes.Angles.vote_row.Goals as goal
use Rattle.hough.proofs.votes.Angles.vote_row.Goals.{then-img-y-ne0, else-img-y-ne0}

pub loop-x-preserved : goal.loop-x-preserved
loop-x-preserved c =
    let s = c.args in
    elim c.if-img-y-ne0.branch [
      | then-img-y-ne0 w ↦
          let e : tally_of c.if-img-y-ne0.votes c.if-img-y-ne0.best ≡ counted_all (tally_of c.loop-x.votes c.loop-x.best) (angle_votes s.self.now.w c.loop-x.x s.y 240) = rw (w.votes-is, w.best-is) w.vote_pixel-best.ensures in
          count_more _ _ _ _ c.loop-x.x _ c.loop-x.invariant e (shown_yes s.img.now s.self.now.w s.y c.loop-x.x w.if-img-y-ne0.true)
      | else-img-y-ne0 w ↦
          let e : tally_of c.if-img-y-ne0.votes c.if-img-y-ne0.best ≡ counted_all (tally_of c.loop-x.votes c.loop-x.best) [] = rw (w.votes-is, w.best-is) (count_nothing _) in
          count_more _ _ _ _ c.loop-x.x _ c.loop-x.invariant e (shown_no s.img.now s.self.now.w s.y c.loop-x.x w.if-img-y-ne0.false)
    ]
