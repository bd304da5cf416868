-- `words::byte` meets its contract.
-- Assumes nothing.
use Rattle.std.proofs.Common.{arith}
use Rattle.words.proofs.Bytes.{single}
use Rattle.words.proofs.byte.Goals as goal

pub returns : goal.returns
returns c = single c.args.b.now c.args.at (omega arith)
