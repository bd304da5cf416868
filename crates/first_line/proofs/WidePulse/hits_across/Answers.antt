-- Answers of the goals that the check leaves.
use Rattle.std.proofs.Common.{◌≡◌, ◌≤◌, arith}
use lib.Ieee.{of_bits, of_int}
use Rattle.columns.specs.Columns.{column_part}
use Rattle.window_fold.specs.Fold.{lines_at}
use Rattle.ieee.proofs.Whole.{in_float_lem}
use Rattle.window_fold.proofs.Folding.{hit_small}
use Rattle.first_line.proofs.Across.{across_none, across_most, across_next}
use Rattle.first_line.proofs.WidePulse.hits_across.Goals as goal

pub loop-n-init : goal.loop-n-init
loop-n-init c = across_none _ _ _ _

pub int_to_float-lines : goal.int_to_float-lines
int_to_float-lines c = in_float_lem _ (omega arith)

pub overflow_add-lines : goal.overflow_add-lines
overflow_add-lines c = omega arith

pub int_to_float-lines-in-loop-n : goal.int_to_float-lines-in-loop-n
int_to_float-lines-in-loop-n c = in_float_lem _ (omega arith)

pub overflow_cast-hits : goal.overflow_cast-hits
overflow_cast-hits c = let o : c.hit.result ≤ 1 = rw c.hit.ensures (hit_small _ _ _) in omega arith

pub overflow_add-hits : goal.overflow_add-hits
overflow_add-hits c =
    let l = c.loop-n in
    let o : c.hit.result ≤ 1 = rw c.hit.ensures (hit_small _ _ _) in
    let h : l.hits ≤ l.n = rw l.invariant (across_most _ _ _ _ l.n) in
    omega arith

pub loop-n-preserved : goal.loop-n-preserved
unfolding lines_at column_part of_bits of_int
loop-n-preserved c = across_next _ _ _ _ _ _ _ c.loop-n.invariant c.hit.ensures

pub returns : goal.returns
returns c =
    let l = c.loop-n in
    let e : l.n ≡ c.args.self.now.width = omega arith in
    rw (← e) l.invariant
