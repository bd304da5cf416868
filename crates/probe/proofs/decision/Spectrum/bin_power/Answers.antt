-- `probe::decision::Spectrum::bin_power` meets its contract. Both places lie in the spectrum.
-- Assumes nothing.
use native.Mathlib.Omega.{arith}
use mathlib.Core.Path.{◌∙◌}
use Rattle.probe.proofs.Powers.{bin_is}
use Rattle.probe.proofs.decision.Spectrum.bin_power.Goals as goal

pub returns : goal.returns
returns c = c.power.ensures ∙ bin_is _ _ (omega arith)
