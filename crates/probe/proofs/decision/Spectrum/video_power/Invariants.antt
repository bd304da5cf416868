-- `probe::decision::Spectrum::video_power` meets its contract. The loop's invariant: the powers of the bins passed are added.
-- Assumes nothing.
use Prim.Native.Nat.{◌-◌}
use mathlib.Core.Path.{◌≡◌}
use Rattle.probe.specs.Decision.{powers_of}
use Rattle.probe.proofs.decision.Spectrum.video_power.Given as goal

abbrev pub invariant-loop-k : goal.invariant-loop-k
invariant-loop-k l = l.p_raw ≡ powers_of l.self.numbers.now l.fn.lo (l.k - l.fn.lo)
