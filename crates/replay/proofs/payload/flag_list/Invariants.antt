-- The flags are those of the runs before run i.
use Rattle.std.proofs.Common.{◌≡◌, ◌≤◌, vec_len, take}
use Rattle.replay.specs.Flags.{flags_within}
use Rattle.replay.proofs.payload.flag_list.Given as goal

abbrev pub invariant-loop-i : goal.invariant-loop-i
invariant-loop-i l = (vec_len l.flags ≤ l.most) × (l.flags.items ≡ flags_within l.most (take l.i l.runs))
