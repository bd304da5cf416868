-- `first_line::line_probes` meets its contract. Assumes nothing.
use lib.Ieee.{of_bits, of_int}
use Rattle.first_line.specs.Pulsed.{line_probes}
use Rattle.first_line.proofs.line_probes.Goals as goal

pub returns : goal.returns
unfolding line_probes of_bits of_int
returns c = rw c.line_samples.ensures
