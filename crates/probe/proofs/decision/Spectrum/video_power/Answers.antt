-- Answers of the goals that the check leaves.
use Prim.Native.Nat.{◌+◌}
use native.Mathlib.Omega.{arith}
use mathlib.Core.Path.{◌≡◌}
use lib.Ieee.{of_bits}
use Rattle.probe.proofs.Powers.{powers_none, powers_more}
use Rattle.probe.proofs.decision.Spectrum.video_power.Goals as goal

pub loop-k-init : goal.loop-k-init
unfolding of_bits
loop-k-init c = powers_none _ _

pub bin_power-p_raw-requires : goal.bin_power-p_raw-requires
bin_power-p_raw-requires c = omega arith

pub loop-k-preserved : goal.loop-k-preserved
loop-k-preserved c =
    powers_more _ _ c.loop-k.k _ _ (omega arith) c.loop-k.invariant c.bin_power-p_raw.ensures

pub returns : goal.returns
returns c =
    let e : c.loop-k.k ≡ c.args.hi + 1 = omega arith in
    rw (← e) c.loop-k.invariant

pub returns-2 : goal.returns-2
returns-2 c =
    let e : c.loop-k.k ≡ c.args.hi = omega arith in
    rw (← e) (powers_more _ _ c.loop-k.k _ _ (omega arith) c.loop-k.invariant c.bin_power-p_raw.ensures)
