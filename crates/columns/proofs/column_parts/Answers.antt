-- `columns::column_parts` meets its contract. Assumes nothing.
use Rattle.std.proofs.Common.{rules}
use lib.Ieee.{nan, of_int}
use Rattle.columns.specs.Columns.{column_part}
use Rattle.columns.proofs.Lists.{from_fn_is}
use Rattle.columns.proofs.column_parts.Goals as goal

pub returns : goal.returns
unfolding column_part of_int
returns c = from_fn_is _ _ (column_part c.args.w) (λ k y next h. search rules) c.from_fn.result 700 nan c.from_fn.ensures.items
