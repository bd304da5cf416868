-- `pulse::quality` meets its contract. Assumes nothing.
use mathlib.Core.Path.{ap, ◌∙◌}
use Prim.Native.Nat.{◌≤◌}
use native.Mathlib.Omega.{arith}
use lib.ListN.{length}
use Rattle.pulse.specs.declared.BestWindow.{BestWindow}
use Rattle.pulse.proofs.Largest.{best_below}
use Rattle.pulse.proofs.Answers.{quality_some}
use Rattle.pulse.proofs.quality.Goals as goal

pub quality_by-requires : goal.quality_by-requires
quality_by-requires c =
    let k = c.args.counts.now in
    let n : 1 ≤ length k = omega arith in
    let w : c.pulse_columns-width.result ≤ 65536 = rw c.pulse_columns-width.ensures (omega (arith, (c.requires.2 n).1)) in
    (rw c.best_window-best.ensures (best_below k _ (λ i. (c.type_inv.counts i).fits) w), w, c.requires.1)

pub returns : goal.returns
returns c =
    let a = c.args in
    c.quality_by.ensures
    ∙ quality_some a.counts.now a.spec a.lines c.pulse_columns-width.result c.best_window-best.result.sum c.median.result
    c.if-n-eq0.false c.if-lines-eq0.false c.pulse_columns-width.ensures (ap (λ (x : BestWindow). x.sum) c.best_window-best.ensures) c.median.ensures
