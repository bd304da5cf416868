-- `line_parity::tone_at` meets its contract. Assumes nothing.
use native.Mathlib.Omega.{arith}
use lib.Ieee.{of_bits, of_int}
use Rattle.line_parity.specs.Parity.{tone_at}
use Rattle.ieee.proofs.Whole.{in_float_lem}
use Rattle.line_parity.proofs.tone_at.Goals as goal

pub int_to_float-k : goal.int_to_float-k
int_to_float-k c = in_float_lem _ (omega arith)

pub returns : goal.returns
unfolding tone_at of_bits of_int
returns c = rw (c.round.ensures, c.separator_seconds-separator.ensures)
