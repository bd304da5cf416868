-- `probe::shift_allowed` meets its contract. Both ends are finite.
-- Assumes nothing.
use Rattle.std.proofs.Common.{◌∙◌}
use lib.Ieee.{of_bits, of_int, neg}
use Rattle.probe.specs.Refusals.{shift_allowed, between}
use Rattle.ieee.proofs.Compare.{float_le}
use Rattle.probe.proofs.shift_allowed.Goals as goal

pub returns : goal.returns
unfolding shift_allowed between of_bits of_int neg
returns c = c.contains.ensures.value ∙ rw (c.new.ensures.exhausted, c.new.ensures.start, c.new.ensures.end, float_le, float_le)
