-- A record that is counted changes no name.
use Rattle.std.proofs.Common.{of_calls, map, ap, ◌∙◌}
use Rattle.replay.proofs.Counting.{same_names}
use Rattle.replay.proofs.each_record_limited.Goals as goal

pub loop-preserved : goal.loop-preserved
loop-preserved g c = (search of_calls, ap (λ kinds. map (λ kind. kind.0) kinds) c.count.ensures.kinds ∙ same_names _ _ ∙ c.loop.invariant.1)
