-- `line_parity::lean` meets its contract. Assumes nothing.
use lib.Ieee.{of_bits, round}
use Rattle.line_parity.specs.Parity.{epsilon, lean_of}
use Rattle.line_parity.proofs.lean.Goals as goal

pub returns : goal.returns
unfolding lean_of epsilon of_bits round
returns c = rw (c.goertzel_power-odd_power.ensures, c.goertzel_power-even_power.ensures)
