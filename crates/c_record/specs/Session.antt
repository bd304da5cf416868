-- The answers of open, feed and read as the C records say them (include/funnelivy.h; 01-scope.md, "Session"). Definitions only.
use Rattle.std.specs.Prelude.{ℕ, false, pos, Float, Result, Ok, Err}
use Rattle.std.specs.Float.{fin}
use Rattle.limits.specs.declared.Refusal.{Refusal}
use Rattle.limits.specs.Refusals.{number_of}
use Rattle.plain.specs.declared.End.{End}
use Rattle.plain.specs.declared.End.TheVariants as end
use Rattle.plain.specs.declared.Reading.{Reading}
use Rattle.session.specs.declared.Session.{Session}
use Rattle.session.specs.declared.Fed.{Fed}
use Rattle.c_record.specs.declared.FunnelivyOpened.{FunnelivyOpened}
use Rattle.c_record.specs.declared.FunnelivyFed.{FunnelivyFed}
use Rattle.c_record.specs.declared.FunnelivyReading.{FunnelivyReading}
use Rattle.c_answer.specs.Report.{has_slant, degrees_of}
use Rattle.c_record.specs.Record.{session_wire, no_session}

-- ---- open

abbrev pub opened_wire : Result Session Refusal → FunnelivyOpened
opened_wire (Ok s) = record { refusal = 0; session = session_wire s }
opened_wire (Err e) = record { refusal = number_of e; session = no_session }

-- ---- feed

abbrev pub fed_wire : Result Fed Refusal → FunnelivyFed
fed_wire (Ok f) = record { refusal = 0; taken = f.taken; session = session_wire f.session }
fed_wire (Err e) = record { refusal = number_of e; taken = 0; session = no_session }

-- ---- read

-- what only a report has is 0
abbrev pub unreported : (refusal end taken evaluations start windows : ℕ) → Float → FunnelivyReading
unreported refusal end taken evaluations start windows start_quality =
    record {
      refusal = refusal;
      end = end;
      taken = taken;
      evaluations = evaluations;
      start = start;
      rate = fin false 0 (pos 0);
      slant = fin false 0 (pos 0);
      skip = pos 0;
      start_quality = start_quality;
      quality = fin false 0 (pos 0);
      has_slant = 0;
      windows = windows;
    }

-- 0 reported, 1 unfound, 2 cut short
abbrev pub end_wire : End → (taken evaluations : ℕ) → FunnelivyReading
end_wire (end.Reported start windows start_quality rate slant skip quality) taken evaluations =
    record {
      refusal = 0;
      end = 0;
      taken = taken;
      evaluations = evaluations;
      start = start;
      rate = rate;
      slant = degrees_of slant;
      skip = skip;
      start_quality = start_quality;
      quality = quality;
      has_slant = has_slant slant;
      windows = windows;
    }
end_wire end.Unfound taken evaluations = unreported 0 1 taken evaluations 0 0 (fin false 0 (pos 0))
end_wire (end.CutShort start windows start_quality) taken evaluations = unreported 0 2 taken evaluations start windows start_quality

abbrev pub reading_wire : Result Reading Refusal → FunnelivyReading
reading_wire (Ok g) = end_wire g.end g.taken g.evaluations
reading_wire (Err e) = unreported (number_of e) 0 0 0 0 0 (fin false 0 (pos 0))
