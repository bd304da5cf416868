-- A session as a record of numbers, and what session any such record says (include/funnelivy.h). Definitions only.
use Rattle.std.specs.Prelude.{ℕ, false, cond, eqb, pos, Float, Option, None, Some}
use Rattle.std.specs.Float.{fin}
use Rattle.sync.specs.declared.SyncResult.{SyncResult}
use Rattle.plain.specs.declared.Start.{Start}
use Rattle.plain.specs.declared.Phase.{Phase}
use Rattle.plain.specs.declared.Phase.TheVariants.{Searching, Collecting, Reported, Unfound, CutShort}
use Rattle.session.specs.declared.Session.{Session}
use Rattle.c_record.specs.declared.FunnelivySession.{FunnelivySession}
use Rattle.c_answer.specs.Report.{has_slant, degrees_of}

-- ---- from the record

-- any number but 0 means a slant
abbrev pub slant_of : ℕ → Float → Option Float
slant_of has slant = cond (eqb has 0) None (Some slant)

abbrev pub start_of : FunnelivySession → Start
start_of w = record { position = w.position; quality = w.start_quality; windows = w.windows }

abbrev pub report_of : FunnelivySession → SyncResult
report_of w =
    record {
      adjusted_rate_hz = w.rate;
      skip_samples = w.skip;
      slant_deg = slant_of w.has_slant w.slant;
      sync_quality = w.quality;
    }

-- 0 searching, 1 collecting, 2 reported, 4 cut short; 3, and every number that no session has, unfound
abbrev pub phase_of : FunnelivySession → Phase
phase_of w =
    cond (eqb w.phase 0) Searching
    (cond (eqb w.phase 1) (Collecting (start_of w))
    (cond (eqb w.phase 2) (Reported (start_of w) (report_of w)) (cond (eqb w.phase 4) (CutShort (start_of w)) Unfound)))

abbrev pub session_of : FunnelivySession → Session
session_of w =
    record {
      mode = w.mode;
      anchor = w.anchor;
      capacity = w.capacity;
      taken = w.taken;
      evaluations = w.evaluations;
      streak = w.streak;
      phase = phase_of w;
    }

-- ---- to the record

abbrev pub no_start : Start
no_start = record { position = 0; quality = fin false 0 (pos 0); windows = 0 }

abbrev pub no_report : SyncResult
no_report =
    record {
      adjusted_rate_hz = fin false 0 (pos 0);
      skip_samples = pos 0;
      slant_deg = None;
      sync_quality = fin false 0 (pos 0);
    }

abbrev pub wire_by : ℕ → Session → Start → SyncResult → FunnelivySession
wire_by number s start report =
    record {
      anchor = s.anchor;
      capacity = s.capacity;
      taken = s.taken;
      evaluations = s.evaluations;
      streak = s.streak;
      position = start.position;
      rate = report.adjusted_rate_hz;
      slant = degrees_of report.slant_deg;
      skip = report.skip_samples;
      start_quality = start.quality;
      quality = report.sync_quality;
      windows = start.windows;
      mode = s.mode;
      phase = number;
      has_slant = has_slant report.slant_deg;
    }

-- what a phase does not have is 0
abbrev pub phase_wire : Phase → Session → FunnelivySession
phase_wire Searching s = wire_by 0 s no_start no_report
phase_wire (Collecting start) s = wire_by 1 s start no_report
phase_wire (Reported start report) s = wire_by 2 s start report
phase_wire Unfound s = wire_by 3 s no_start no_report
phase_wire (CutShort start) s = wire_by 4 s start no_report

abbrev pub session_wire : Session → FunnelivySession
session_wire s = phase_wire s.phase s

-- the record of a refused call
abbrev pub no_session : FunnelivySession
no_session =
    record {
      anchor = 0;
      capacity = 0;
      taken = 0;
      evaluations = 0;
      streak = 0;
      position = 0;
      rate = fin false 0 (pos 0);
      slant = fin false 0 (pos 0);
      skip = pos 0;
      start_quality = fin false 0 (pos 0);
      quality = fin false 0 (pos 0);
      windows = 0;
      mode = 0;
      phase = 0;
      has_slant = 0;
    }
