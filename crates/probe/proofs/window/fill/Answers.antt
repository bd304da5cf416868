-- Answers of the goals that the check leaves.
use Rattle.std.proofs.Common.{◌∙◌, arith}
use lib.Ieee.{of_bits}
use Rattle.probe.proofs.Pairs.{real_in, pairs_none, pairs_more, pairs_all}
use Rattle.probe.proofs.window.fill.Goals as goal

pub loop-i-init : goal.loop-i-init
unfolding of_bits
loop-i-init c = c.fill.ensures.after (λ y e. e) ∙ pairs_none _ _ _ c.requires.2

pub loop-i-preserved : goal.loop-i-preserved
loop-i-preserved c =
    let l = c.loop-i in
    rw l.invariant (pairs_more _ _ l.i _ (omega arith) (real_in _ _ l.i c.sound_at.result c.args.weights.now (omega arith) c.requires.1 c.sound_at.ensures))

pub returns : goal.returns
returns c = pairs_all _ _ _ c.loop-i.i (omega arith) c.loop-i.invariant
