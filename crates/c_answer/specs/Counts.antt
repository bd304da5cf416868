-- The sizes of a mode, the columns of its pulse, and what column counts tell, as the C records say them (include/funnelivy.h; 01-scope.md,
-- "Modes", "Fold and pulse window"). Definitions only.
use Rattle.std.specs.Prelude.{ℕ, false, pos, Float, Result, Ok, Err}
use Rattle.std.specs.Float.{fin}
use Rattle.limits.specs.declared.Refusal.{Refusal}
use Rattle.limits.specs.Refusals.{number_of}
use Rattle.modespec.specs.declared.Sizes.{Sizes}
use Rattle.pulse.specs.declared.BestWindow.{BestWindow}
use Rattle.c_answer.specs.declared.FunnelivySizesAnswer.{FunnelivySizesAnswer}
use Rattle.c_answer.specs.declared.FunnelivyColumnsAnswer.{FunnelivyColumnsAnswer}
use Rattle.c_answer.specs.declared.FunnelivyWindowAnswer.{FunnelivyWindowAnswer}
use Rattle.c_answer.specs.declared.FunnelivyQualityAnswer.{FunnelivyQualityAnswer}

abbrev pub sizes_wire : Result Sizes Refusal → FunnelivySizesAnswer
sizes_wire (Ok sizes) = record { refusal = 0; window = sizes.window; picture = sizes.picture }
sizes_wire (Err e) = record { refusal = number_of e; window = 0; picture = 0 }

-- the columns of a pulse, and the column of the falling edge
abbrev pub columns_wire : Result ℕ Refusal → FunnelivyColumnsAnswer
columns_wire (Ok n) = record { refusal = 0; columns = n }
columns_wire (Err e) = record { refusal = number_of e; columns = 0 }

abbrev pub window_wire : Result BestWindow Refusal → FunnelivyWindowAnswer
window_wire (Ok best) = record { refusal = 0; start = best.start; sum = best.sum; windows = best.windows }
window_wire (Err e) = record { refusal = number_of e; start = 0; sum = 0; windows = 0 }

abbrev pub quality_wire : Result Float Refusal → FunnelivyQualityAnswer
quality_wire (Ok q) = record { refusal = 0; quality = q }
quality_wire (Err e) = record { refusal = number_of e; quality = fin false 0 (pos 0) }
