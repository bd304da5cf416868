-- The first k kinds have the first k names.
use Rattle.std.proofs.Common.{◌≡◌, map, take, length}
use Rattle.replay.proofs.tally.Tally.of.Given as goal

abbrev pub invariant-loop-k : goal.invariant-loop-k
invariant-loop-k l = (take l.k l.kinds ≡ map (λ name. (name, 0)) (take l.k l.name-items)) × (length l.kinds ≡ 12)
