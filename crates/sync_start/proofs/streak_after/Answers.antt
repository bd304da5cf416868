-- `sync_start::streak_after` meets its contract. Assumes nothing.
use lib.Ieee.{of_bits, round}
use Rattle.sync_start.specs.Evaluate.{streak_after}
use Rattle.sync_start.proofs.streak_after.Goals as goal

pub returns-then-quality : goal.returns-then-quality
unfolding streak_after of_bits round
returns-then-quality c = rw c.if-quality.true

pub returns-else-quality : goal.returns-else-quality
unfolding streak_after of_bits round
returns-else-quality c = rw c.if-quality.false
