-- `sync_start::position` meets its contract. Assumes nothing.
use lib.Ieee.{of_bits, of_int}
use Rattle.sync_start.specs.Evaluate.{position_of}
use Rattle.sync_start.proofs.position.Goals as goal

pub returns : goal.returns
unfolding position_of of_bits of_int
returns c = rw (c.to_u64.ensures, c.round.ensures, c.max.ensures)
