-- `session::Session::run` meets its contract. The loop's invariant: the session stands after i flags of the piece. The measure is what is left of the piece.
-- Assumes nothing.
use Prim.Native.Nat.{◌-◌}
use lib.ListN.{length}
use Rattle.session.proofs.Loop.{Left, Part}
use Rattle.session.proofs.Session.run.Given as goal

abbrev pub invariant-loop-left : goal.invariant-loop-left
invariant-loop-left l =
    Left l.piece.flags.now l.piece.samples.now l.left.flags.now l.left.samples.now
    × Part l.initial.session l.initial.store l.initial.audio l.initial.img l.initial.votes l.piece.flags.now l.piece.samples.now (length l.piece.flags.now - length l.left.flags.now) l.session l.store l.audio l.img l.votes

abbrev pub decreases-loop-left : goal.decreases-loop-left
decreases-loop-left l = length l.left.flags.now
