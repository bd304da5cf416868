-- The next place is at most the list's length.
use Rattle.std.proofs.Common.{◌≤◌, length}
use Rattle.replay.proofs.payload.flags.Given as goal

abbrev pub invariant-loop-i : goal.invariant-loop-i
invariant-loop-i l = l.at ≤ length l.out
