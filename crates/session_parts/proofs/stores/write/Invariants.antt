-- `session_parts::stores::write` meets its contract. The loop's invariant: the first i places are the piece's. Assumes nothing.
use Rattle.std.proofs.Common.{◌≡◌, ◌++◌, length, take, drop}
use Rattle.session_parts.proofs.stores.write.Given as goal

abbrev pub invariant-loop-i : goal.invariant-loop-i
invariant-loop-i g l = (length l.tail ≡ length l.initial.tail) × (l.tail ≡ take l.i l.piece ++ drop l.i l.initial.tail)
