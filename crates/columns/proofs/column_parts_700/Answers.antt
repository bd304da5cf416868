-- `columns::column_parts_700` meets its contract: the literals of the source are the quotients. Assumes nothing.
use mathlib.Core.Path.{refl}
use lib.Ieee.{of_bits, of_int, div}
use Rattle.columns.specs.Columns.{column_part, list_to}
use Rattle.columns.proofs.column_parts_700.Goals as goal

pub returns : goal.returns
unfolding list_to column_part div of_int of_bits
returns c = refl
