-- `probe::decision::Spectrum::video_mean` meets its contract. The divisor is a small whole number, so a float exactly.
-- Assumes nothing.
use native.Mathlib.Omega.{arith}
use lib.Ieee.{of_bits}
use Rattle.probe.proofs.Powers.{mean_none, mean_some}
use Rattle.ieee.proofs.Whole.{in_float_lem}
use Rattle.probe.proofs.decision.Spectrum.video_mean.Goals as goal

pub returns-then-hi-lo : goal.returns-then-hi-lo
unfolding of_bits
returns-then-hi-lo c = mean_none _ c.args.lo c.args.hi c.if-hi-lo.true

pub int_to_float-result : goal.int_to_float-result
int_to_float-result c = in_float_lem _ (omega arith)

pub returns : goal.returns
returns c =
    let a = c.args in
    mean_some _ a.lo a.hi c.max-divisor.result c.video_power-p_raw.result c.if-hi-lo.false c.video_power-p_raw.ensures c.max-divisor.ensures
