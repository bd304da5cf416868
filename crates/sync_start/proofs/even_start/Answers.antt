-- `sync_start::even_start` meets its contract. Assumes nothing.
use Rattle.sync_start.specs.Evaluate.{even_start}
use Rattle.sync_start.proofs.even_start.Goals as goal

pub returns-then-odd : goal.returns-then-odd
unfolding even_start
returns-then-odd c = rw (c.line_samples.ensures, c.if-odd.true)

pub returns-else-odd : goal.returns-else-odd
unfolding even_start
returns-else-odd c = rw c.if-odd.false
