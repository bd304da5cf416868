-- `first_line::WidePulse::hits_across` meets its contract. The loop's invariant: the hits are those of the first n columns. Assumes nothing.
use Rattle.std.proofs.Common.{◌≡◌}
use Rattle.first_line.specs.Pulsed.{hits_across}
use Rattle.first_line.proofs.WidePulse.hits_across.Given as goal

abbrev pub invariant-loop-n : goal.invariant-loop-n
invariant-loop-n l = l.hits ≡ hits_across l.self.samples l.self.window.now l.y l.self.column l.n
