-- The kinds keep their names, and the closure may be called again.
use Rattle.replay.specs.Counts.{KeepsNames}
use Rattle.replay.proofs.each_record_limited.Given as goal

abbrev pub invariant-loop : goal.invariant-loop
invariant-loop g l = goal.F-IsAlwaysCallable g l.answer × KeepsNames l.initial.tally l.tally
