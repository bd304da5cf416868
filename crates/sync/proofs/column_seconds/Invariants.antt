-- `sync::column_seconds` meets its contract. The loop's invariant: the columns passed have their times. Assumes nothing.
use mathlib.Core.Path.{◌≡◌}
use lib.ListN.{length, take}
use Rattle.columns.specs.Columns.{list_to}
use Rattle.sync.specs.Fold.{column_seconds}
use Rattle.sync.proofs.column_seconds.Given as goal

abbrev pub invariant-loop-x : goal.invariant-loop-x
invariant-loop-x l = (length l.seconds ≡ 700) × (take l.x l.seconds ≡ list_to (column_seconds l.line) l.x)
