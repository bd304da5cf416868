-- `sync_start::Window::line_start` meets its contract. Assumes nothing.
use Rattle.std.proofs.Common.{arith}
use lib.Ieee.{of_bits, of_int}
use Rattle.columns.specs.Columns.{column_part}
use Rattle.window_fold.specs.Fold.{lines_at}
use Rattle.sync_start.specs.Evaluate.{line_start}
use Rattle.ieee.proofs.Whole.{in_float_lem}
use Rattle.sync_start.proofs.Window.line_start.Goals as goal

pub int_to_float-lines : goal.int_to_float-lines
int_to_float-lines c = in_float_lem _ (omega arith)

pub int_to_float-result : goal.int_to_float-result
int_to_float-result c = in_float_lem _ (omega arith)

pub returns : goal.returns
unfolding line_start lines_at column_part of_bits of_int
returns c = rw (c.pulse_offset_seconds.ensures, c.first.ensures)
