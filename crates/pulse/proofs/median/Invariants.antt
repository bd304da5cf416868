-- `pulse::median` meets its contract. The loop's invariant: more than half of the counts are at most `high`, and of no value below `low` that is so.
-- Assumes nothing.
use Prim.Native.Nat.{ℕ, ◌-◌, ◌^◌, ◌≤◌, ◌<◌}
use Rattle.pulse.specs.Median.{count_at_most}
use Rattle.pulse.proofs.median.Given as goal

abbrev pub invariant-loop-low : goal.invariant-loop-low
invariant-loop-low l = (l.low ≤ l.high) × (l.high < 2 ^ 32) × (l.half < count_at_most l.high l.counts) × ((v : ℕ) → v < l.low → count_at_most v l.counts ≤ l.half)

abbrev pub decreases-loop-low : goal.decreases-loop-low
decreases-loop-low l = l.high - l.low
