-- The answer of `has_sync_at` as the C interface says it (include/funnelivy.h; 01-scope.md, "Spectrum and probe"). Definitions only.
use Rattle.std.specs.Prelude.{Bool, cond, Result, Ok, Err}
use Rattle.limits.specs.declared.Refusal.{Refusal}
use Rattle.limits.specs.Refusals.{number_of}
use Rattle.c_answer.specs.declared.FunnelivyDecisionAnswer.{FunnelivyDecisionAnswer}

abbrev pub decision_wire : Result Bool Refusal → FunnelivyDecisionAnswer
decision_wire (Ok sync) = record { refusal = 0; has_sync = cond sync 1 0 }
decision_wire (Err e) = record { refusal = number_of e; has_sync = 0 }
