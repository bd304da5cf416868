-- `sync::is_positive` meets its contract. Assumes nothing.
use lib.Ieee.{of_bits}
use Rattle.sync.proofs.Rising.{between}
use Rattle.sync.proofs.is_positive.Goals as goal

pub returns-then-x : goal.returns-then-x
unfolding of_bits
returns-then-x c = λ e. between _ _ _ c.if-x.true e
