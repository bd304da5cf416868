-- Answers of the goals that the check leaves.
use Rattle.std.proofs.Common.{slice_set, ap, ◌∙◌, arith, length-set}
use Rattle.session_parts.proofs.Lists.{more}
use Rattle.session_parts.proofs.stores.write.Goals as goal

pub loop-i-preserved : goal.loop-i-preserved
loop-i-preserved g c =
    let w = c.loop-i.tail in
    (simp length-set c.loop-i.invariant.0, ap (λ (x : g.row.T.Denot). slice_set w c.loop-i.i x) c.index-piece-i.is ∙ more c.index-piece-i.result w c.args.piece.now c.args.tail.now c.loop-i.i (omega arith) (omega arith) c.loop-i.invariant.1)
