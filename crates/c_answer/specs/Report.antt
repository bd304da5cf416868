-- The report of `find_sync` as the C records say it (include/funnelivy.h; 01-scope.md, "Slant and rate"). Definitions only.
use Rattle.std.specs.Prelude.{ℕ, false, pos, Float, Option, None, Some, Result, Ok, Err}
use Rattle.std.specs.Float.{fin}
use Rattle.limits.specs.declared.Refusal.{Refusal}
use Rattle.limits.specs.Refusals.{number_of}
use Rattle.sync.specs.declared.SyncResult.{SyncResult}
use Rattle.c_answer.specs.declared.FunnelivyReportAnswer.{FunnelivyReportAnswer}

-- 1 where there is a slant
abbrev pub has_slant : Option Float → ℕ
has_slant None = 0
has_slant (Some d) = 1

-- the slant, 0 where there is none
abbrev pub degrees_of : Option Float → Float
degrees_of None = fin false 0 (pos 0)
degrees_of (Some d) = d

abbrev pub report_wire : Result SyncResult Refusal → FunnelivyReportAnswer
report_wire (Ok result) =
    record {
      refusal = 0;
      has_slant = has_slant result.slant_deg;
      rate = result.adjusted_rate_hz;
      slant = degrees_of result.slant_deg;
      skip = result.skip_samples;
      quality = result.sync_quality;
    }
report_wire (Err e) =
    record {
      refusal = number_of e;
      has_slant = 0;
      rate = fin false 0 (pos 0);
      slant = fin false 0 (pos 0);
      skip = pos 0;
      quality = fin false 0 (pos 0);
    }
