-- Answers of the goals that the check leaves.
use mathlib.Core.Path.{◌≡◌}
use native.Mathlib.Omega.{arith}
use Rattle.hough.proofs.Drawing.{drawn_more}
use Rattle.hough.proofs.image.Drawing.draw.Goals as goal

pub loop-y-preserved : goal.loop-y-preserved
loop-y-preserved c =
    drawn_more _ _ _ _ _ _ (omega arith) c.loop-y.invariant c.draw_row.ensures

pub returns : goal.returns
returns c =
    let e : c.loop-y.y ≡ c.args.n = omega arith in
    rw (← e) c.loop-y.invariant
