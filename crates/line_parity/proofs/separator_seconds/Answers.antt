-- `line_parity::separator_seconds` meets its contract. Assumes nothing.
use mathlib.Core.Path.{refl}
use lib.Ieee.{of_bits, of_int}
use Rattle.line_parity.specs.Parity.{separator_of}
use Rattle.line_parity.proofs.separator_seconds.Goals as goal

pub returns : goal.returns
unfolding separator_of of_bits of_int
returns c = refl
