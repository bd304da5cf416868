-- `words::put` meets its contract. Assumes nothing.
use Rattle.words.proofs.Storing.{put_done}
use Rattle.words.proofs.put.Goals as goal

pub returns : goal.returns
returns c =
    let a = c.args in
    put_done a.b.now _ _ a.at a.n c.min-low.result a.v c.ranges.v.fits c.requires c.min-low.ensures (rw c.to_le_bytes.ensures at c.copy_from_slice.ensures.after)
    (c.fill.ensures.after (λ y e. e))
