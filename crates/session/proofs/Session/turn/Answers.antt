-- `session::Session::turn` meets its contract. The tails come back with the chunk at their front, and the three events follow in order.
-- Assumes nothing.
use Rattle.session_parts.proofs.Lists.{put_tail}
use Rattle.session.proofs.Chunk.{turn_done}
use Rattle.session.proofs.Session.turn.Goals as goal

pub returns : goal.returns
returns c =
    let x = c.args in
    turn_done x.self x.store.now x.audio.now x.img.now x.votes.now x.piece.flags.now x.piece.samples.now
    c.evaluate-judged.result c.finish-finished.result c.close.result
    _ c.keep_samples.new.audio c.finish-finished.new.img c.finish-finished.new.votes
    c.requires.sane c.requires.live c.requires.store_is_capacity c.requires.samples_fit c.requires.piece_fits.0 c.requires.piece_fits.1 x.piece.paired
    (rw c.write.ensures (put_tail x.self.taken x.store.now x.piece.flags.now c.requires.piece_fits.1))
    c.keep_samples.ensures c.evaluate-judged.ensures c.finish-finished.ensures c.close.ensures
