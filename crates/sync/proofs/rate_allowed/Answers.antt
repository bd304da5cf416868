-- `sync::rate_allowed` meets its contract. Assumes nothing.
use Rattle.std.proofs.Common.{◌∙◌}
use lib.Ieee.{of_bits, of_int}
use Rattle.ieee.proofs.Compare.{float_le}
use Rattle.sync.specs.FindSync.{rate_allowed}
use Rattle.sync.proofs.rate_allowed.Goals as goal

pub returns : goal.returns
unfolding rate_allowed of_bits of_int
returns c = c.contains.ensures.value ∙ rw (c.new.ensures.exhausted, c.new.ensures.start, c.new.ensures.end, float_le, float_le)
