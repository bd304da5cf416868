-- `hough::image::Drawing::draw` meets its contract. The loop's invariant: the first y rows are drawn. Assumes nothing.
use Prim.Native.Nat.{min}
use Rattle.hough.specs.Pass.{flag_of}
use Rattle.hough.specs.Steps.{Drawn}
use Rattle.hough.proofs.image.Drawing.draw.Given as goal

abbrev pub invariant-loop-y : goal.invariant-loop-y
invariant-loop-y l = Drawn (λ x y. flag_of l.self.flags.now l.self.rate l.self.line l.self.w x y) (min l.self.w 700) l.y l.initial.img l.img
