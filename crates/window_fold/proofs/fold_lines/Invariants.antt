-- `window_fold::fold_lines` meets its contract. The loop's invariant: the counts are those of the lines before y. Assumes nothing.
use mathlib.Core.Path.{◌≡◌}
use Rattle.columns.specs.Columns.{column_part, list_to}
use Rattle.window_fold.specs.Fold.{fold_to}
use Rattle.window_fold.proofs.fold_lines.Given as goal

abbrev pub invariant-loop-y : goal.invariant-loop-y
invariant-loop-y l = (l.parts ≡ list_to (column_part 700) 700) × (l.counts ≡ fold_to l.samples l.window l.y)
