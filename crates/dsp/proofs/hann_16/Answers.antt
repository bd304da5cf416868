-- `dsp::hann_16` meets its contract, by computation.
-- Assumes nothing.
use Rattle.std.proofs.Common.{refl}
use lib.Ieee.{of_bits}
use Rattle.dsp.specs.Spectrum.{hann, hann_bits}
use Rattle.dsp.proofs.hann_16.Goals as goal

pub returns : goal.returns
unfolding hann hann_bits of_bits
returns c = refl
