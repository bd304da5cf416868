-- Answers of the goals that the check leaves.
use mathlib.Core.Path.{◌≡◌, refl}
use mathlib.Core.List.{List}
use Prim.Native.Nat.{ℕ, ◌<◌}
use native.Mathlib.Omega.{arith}
use lib.Ieee.{Float, mul, binary64}
use lib.ListN.{get_or, length-set}
use Rattle.columns.specs.Columns.{list_to, column_part}
use Rattle.columns.proofs.Lists.{get_d_list, write_next}
use Rattle.sync.specs.Fold.{column_seconds}
use Rattle.sync.proofs.column_seconds.Goals as goal

-- a part times the line is the column's time
time_is : (line : Float) (x : ℕ) (parts : List Float) (d : Float) → x < 700 → parts ≡ list_to (column_part 700) 700 → mul binary64 (get_or parts x d) line ≡ column_seconds line x
unfolding column_seconds
time_is line x parts d h e = rw (e, get_d_list (column_part 700) 700 x d h)

pub loop-x-init : goal.loop-x-init
unfolding list_to
loop-x-init c = (refl, refl)

pub loop-x-preserved : goal.loop-x-preserved
loop-x-preserved c =
    let line = c.args.line in
    (simp length-set c.loop-x.invariant.0, write_next (column_seconds line) c.loop-x.seconds c.loop-x.x _ (omega arith) c.loop-x.invariant.1 (time_is line c.loop-x.x c.column_parts-parts.result _ (omega arith) c.column_parts-parts.ensures))
