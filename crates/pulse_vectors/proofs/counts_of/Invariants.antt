-- There are never more counts than may be.
use Rattle.std.proofs.Common.{◌≤◌, vec_len}
use Rattle.pulse_vectors.proofs.counts_of.Given as goal

abbrev pub invariant-loop-pair : goal.invariant-loop-pair
invariant-loop-pair l =
    (goal.iterator-loop-pair).can_next l.pair-iterator × (goal.iterator-loop-pair).is_finite l.pair-iterator × (vec_len l.counts ≤ 65536)
