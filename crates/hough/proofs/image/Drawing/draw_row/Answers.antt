-- Answers of the goals that the check leaves.
use mathlib.Core.Path.{◌≡◌, ap, ◌∙◌}
use Prim.Native.Nat.{ℕ, min}
use native.Mathlib.Omega.{arith}
use lib.ListN.{get_or}
use lib.Ieee.{Float}
use Rattle.columns.specs.Columns.{probe_of}
use Rattle.hough.proofs.Drawing.{row_more, seconds_at_lem}
use Rattle.hough.proofs.image.Drawing.draw_row.Goals as goal

pub loop-x-preserved : goal.loop-x-preserved
loop-x-preserved c =
    let fs = c.args.self.flags.now in
    row_more _ _ c.loop-x.x _ _ _ (omega arith) (omega arith) (omega arith) c.loop-x.invariant
    (c.flag.ensures ∙ ap (λ (i : ℕ). get_or fs i 0) (c.probe_at.ensures ∙ ap (λ (t : Float). probe_of t c.args.self.rate) (c.seconds-time.ensures ∙ seconds_at_lem c.args.self.line c.args.self.w c.loop-x.x c.args.y c.args.parts.now c.requires.1 (omega arith))))

pub returns : goal.returns
returns c =
    let e : c.loop-x.x ≡ min c.args.self.w 700 = omega arith in
    rw (← e) c.loop-x.invariant
