-- `window_fold::fold` meets its contract. Assumes nothing.
use mathlib.Core.Path.{sym, ◌∙◌}
use Rattle.window_fold.proofs.Silence.{fold_silent}
use Rattle.window_fold.proofs.fold.Goals as goal

pub returns-then-is_silent : goal.returns-then-is_silent
returns-then-is_silent c = fold_silent _ _ (sym c.is_silent.ensures ∙ c.if-is_silent.true) _
