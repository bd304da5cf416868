-- `first_line::run_needed` meets its contract. Assumes nothing.
use Rattle.ieee.specs.Numbers.{decimal}
use lib.Ieee.{of_bits, of_int}
use Rattle.first_line.specs.Pulsed.{run_needed}
use Rattle.first_line.proofs.run_needed.Goals as goal

pub returns : goal.returns
unfolding run_needed decimal of_bits of_int
returns c = c.least.ensures
