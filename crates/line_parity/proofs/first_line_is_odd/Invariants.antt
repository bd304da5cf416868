-- `line_parity::first_line_is_odd` meets its contract. The loop's invariant: the vote is that of the lines before k. Assumes nothing.
use mathlib.Core.Path.{◌≡◌}
use Rattle.line_parity.specs.Parity.{vote_to}
use Rattle.line_parity.proofs.first_line_is_odd.Given as goal

abbrev pub invariant-loop-k : goal.invariant-loop-k
invariant-loop-k l = l.vote ≡ vote_to l.spec l.samples l.start l.k
