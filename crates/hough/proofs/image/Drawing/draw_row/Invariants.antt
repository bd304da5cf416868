-- `hough::image::Drawing::draw_row` meets its contract. The loop's invariant: the row is drawn up to x. Assumes nothing.
use Rattle.hough.specs.Pass.{flag_of}
use Rattle.hough.specs.Steps.{RowDrawn}
use Rattle.hough.proofs.image.Drawing.draw_row.Given as goal

abbrev pub invariant-loop-x : goal.invariant-loop-x
invariant-loop-x l = RowDrawn (λ k. flag_of l.self.flags.now l.self.rate l.self.line l.self.w k l.y) l.y l.x l.initial.img l.img
