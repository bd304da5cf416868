-- `window_fold::hit` meets its contract. Assumes nothing.
use mathlib.Core.Path.{◌∙◌}
use Rattle.window_fold.proofs.Folding.{bit_hit}
use Rattle.window_fold.proofs.hit.Goals as goal

pub returns : goal.returns
returns c = c.bit_at.ensures ∙ bit_hit _ _ _ _ c.probe_at.ensures
