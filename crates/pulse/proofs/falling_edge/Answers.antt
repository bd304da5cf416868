-- `pulse::falling_edge` meets its contract. Assumes nothing.
use mathlib.Core.Path.{◌∙◌}
use Rattle.pulse.proofs.Answers.{edge_none, edge_some}
use Rattle.pulse.proofs.falling_edge.Goals as goal

pub returns-then-best-eq0 : goal.returns-then-best-eq0
returns-then-best-eq0 c = edge_none _ _ _ c.steepest-best.ensures c.if-best-eq0.true

pub returns-else-best-eq0 : goal.returns-else-best-eq0
returns-else-best-eq0 c = c.slip.ensures ∙ edge_some _ _ _ c.steepest-best.ensures c.if-best-eq0.false
