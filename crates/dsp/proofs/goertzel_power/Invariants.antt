-- `dsp::goertzel_power` meets its contract. The loop's invariant: the power of all samples is that of the samples not yet read, from the two values on.
-- Assumes nothing.
use Rattle.std.proofs.Common.{◌≡◌, drop}
use Rattle.dsp.specs.Goertzel.{power_from, goertzel_power}
use Rattle.dsp.proofs.goertzel_power.Given as goal

abbrev pub invariant-loop-sample : goal.invariant-loop-sample
invariant-loop-sample l = goertzel_power l.coeff l.samples ≡ power_from l.coeff l.s_prev l.s_prev2 (drop l.sample-index l.samples)
