-- The closure that unwraps a record may be called where `answer` may.
use Rattle.std.proofs.Common.{of_calls}
use Rattle.replay.proofs.Wrapping.{handed_on}
use Rattle.replay.proofs.run.Goals as goal

pub run_limited-requires : goal.run_limited-requires
run_limited-requires g c = handed_on g.F.FnMut (λ a. (a.0.0, tt)) _ _ c.requires (λ s a i. search of_calls) (λ s a r t e. search of_calls)
