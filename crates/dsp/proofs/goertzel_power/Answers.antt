-- Answers of the goals that the check leaves.
use Rattle.std.proofs.Common.{sym, refl, ◌∙◌, arith}
use lib.Ieee.{of_bits}
use Rattle.dsp.specs.Goertzel.{goertzel_power}
use Rattle.dsp.proofs.Folding.{power_more, power_done}
use Rattle.dsp.proofs.goertzel_power.Goals as goal

pub loop-sample-init : goal.loop-sample-init
unfolding goertzel_power of_bits
loop-sample-init c = refl

pub loop-sample-preserved : goal.loop-sample-preserved
loop-sample-preserved c =
    c.loop-sample.invariant ∙ power_more _ _ _ _ c.loop-sample.sample-index _ (omega arith) c.next_value-s.ensures

pub returns : goal.returns
returns c =
    rw (← c.coefficient-coeff.ensures)
    (c.power_at.ensures ∙ sym (c.loop-sample.invariant ∙ power_done _ _ _ _ c.loop-sample.sample-index (omega arith)))
