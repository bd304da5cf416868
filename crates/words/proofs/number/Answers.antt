-- `words::number` meets its contract. Assumes nothing.
use Rattle.words.proofs.Bytes.{run_read}
use Rattle.words.proofs.number.Goals as goal

pub returns : goal.returns
returns c =
    run_read c.args.b.now c.args.at c.args.n c.from_le_bytes.result c.copy_from_slice.new.self (λ k. (c.type_inv.b k).fits) c.requires.0 c.requires.1
    c.copy_from_slice.ensures.after c.from_le_bytes.ensures
