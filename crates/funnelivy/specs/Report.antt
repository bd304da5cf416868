-- `find_sync`, as the C interface answers it (include/funnelivy.h; 01-scope.md, "Slant and rate"). Definitions only.
use Rattle.std.specs.Prelude.{◌≡◌, ℕ, List, Float}
use Rattle.sync.specs.FindSync.{sync_answer, memory_after}
use Rattle.c_answer.specs.declared.FunnelivyReportAnswer.{FunnelivyReportAnswer}
use Rattle.c_answer.specs.Report.{report_wire}

-- the call's answer, and both memories as `find_sync` leaves them
pub record ReportMeets (flags : List ℕ) (rate : Float) (mode : ℕ) (r : FunnelivyReportAnswer) (im im' vo vo' : List ℕ) : Type 0 where
  pub answer : r ≡ report_wire (sync_answer flags rate mode im vo)
  pub img : im' ≡ memory_after flags rate mode im vo 441000 im
  pub votes : vo' ≡ memory_after flags rate mode im vo 144000 vo
