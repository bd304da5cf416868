-- `first_line::pulse_probes` meets its contract. Assumes nothing.
use Rattle.std.proofs.Common.{refl}
use lib.Ieee.{of_bits, of_int}
use Rattle.first_line.specs.Pulsed.{pulse_probes}
use Rattle.first_line.proofs.pulse_probes.Goals as goal

pub returns : goal.returns
unfolding pulse_probes of_bits of_int
returns c = refl
