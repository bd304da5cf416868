-- `dsp::power_at` meets its contract: the inner fused sum goes into the outer one.
-- Assumes nothing.
use Rattle.dsp.specs.Goertzel.{power_at}
use Rattle.dsp.proofs.power_at.Goals as goal

pub returns : goal.returns
unfolding power_at
returns c = rw (c.mul_add.ensures, c.mul_add-inner.ensures)
