-- The measure is the numbers that are left.
use Rattle.std.proofs.Common.{length}
use Rattle.replay.proofs.payload.Payload.samples.Given as goal

abbrev pub decreases-loop-pieces : goal.decreases-loop-pieces
decreases-loop-pieces l = length l.pieces.rest.now
