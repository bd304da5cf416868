-- `probe::decision::Spectrum::sync_power` meets its contract. The weights are 0.5, 1.0 and 0.5 by computation.
-- Assumes nothing.
use lib.Ieee.{of_bits, of_int}
use Rattle.ieee.specs.Numbers.{decimal}
use Rattle.probe.proofs.Powers.{triangle_is}
use Rattle.probe.proofs.decision.Spectrum.sync_power.Goals as goal

pub returns : goal.returns
unfolding of_bits of_int decimal
returns c =
    triangle_is _ _ c.bin_power-below.result c.bin_power-at.result c.bin_power-above.result c.bin_power-below.ensures
    c.bin_power-at.ensures
    c.bin_power-above.ensures
