-- `dsp::get_bin` meets its contract. 256.0 and 11025.0 are whole numbers by computation.
-- Assumes nothing.
use lib.Ieee.{of_bits, of_int}
use Rattle.dsp.specs.Spectrum.{bin_of}
use Rattle.dsp.proofs.get_bin.Goals as goal

pub returns : goal.returns
unfolding bin_of of_bits of_int
returns c = c.to_u64.ensures
