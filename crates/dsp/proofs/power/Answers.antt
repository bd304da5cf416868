-- `dsp::power` meets its contract. Widening leaves both parts as they are.
-- Assumes nothing.
use Rattle.dsp.specs.Spectrum.{power_of}
use Rattle.dsp.proofs.power.Goals as goal

pub returns : goal.returns
unfolding power_of
returns c = rw (c.to_f64-a.ensures, c.to_f64-b.ensures)
