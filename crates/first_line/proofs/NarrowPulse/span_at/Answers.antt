-- `first_line::NarrowPulse::span_at` meets its contract. Assumes nothing.
use Rattle.std.proofs.Common.{arith}
use lib.Ieee.{of_bits, of_int}
use Rattle.columns.specs.Columns.{column_part}
use Rattle.window_fold.specs.Fold.{lines_at}
use Rattle.first_line.specs.Pulsed.{span_of, pulse_at}
use Rattle.ieee.proofs.Whole.{in_float_lem}
use Rattle.first_line.proofs.NarrowPulse.span_at.Goals as goal

pub int_to_float-start : goal.int_to_float-start
int_to_float-start c = in_float_lem _ (omega arith)

pub int_to_float-start-2 : goal.int_to_float-start-2
int_to_float-start-2 c = in_float_lem _ (omega arith)

pub int_to_float-start-3 : goal.int_to_float-start-3
int_to_float-start-3 c = in_float_lem _ (omega arith)

pub returns : goal.returns
unfolding span_of pulse_at lines_at column_part of_bits of_int
returns c = rw (c.to_u64-2.ensures, c.to_u64.ensures, c.max-from.ensures)
