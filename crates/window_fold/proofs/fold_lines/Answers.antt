-- Answers of the goals that the check leaves.
use mathlib.Core.Path.{◌≡◌}
use native.Mathlib.Omega.{arith}
use Rattle.window_fold.proofs.Folding.{fold_none}
use Rattle.window_fold.proofs.fold_lines.Goals as goal

pub loop-y-init : goal.loop-y-init
loop-y-init c = (c.column_parts_700-parts.ensures, fold_none _ _)

pub fold_line-requires : goal.fold_line-requires
fold_line-requires c = let l = c.loop-y in (omega arith, l.invariant.0, l.invariant.1)

pub loop-y-preserved : goal.loop-y-preserved
loop-y-preserved c = let l = c.loop-y in (l.invariant.0, c.fold_line.ensures)

pub returns : goal.returns
returns c =
    let l = c.loop-y in
    let e : l.y ≡ c.args.lines = omega arith in
    rw (← e) l.invariant.1
