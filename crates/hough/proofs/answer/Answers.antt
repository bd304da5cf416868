-- `hough::answer` meets its contract. Assumes nothing.
use borrow.Author.Tests.{ne_eqb}
use lib.Ieee.{of_bits, of_int}
use Rattle.ieee.specs.Numbers.{decimal}
use Rattle.hough.specs.Pass.{angle_of, rate_of}
use Rattle.hough.proofs.answer.Goals as goal

pub returns : goal.returns
unfolding angle_of rate_of of_bits of_int decimal
returns c = rw (ne_eqb _ _ c.if-leader-eq0.false, ← c.tangents-tangents.ensures)
