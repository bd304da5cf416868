-- The phases by name, and by their numbers in a record (include/funnelivy.h). Definitions only.
use Rattle.std.specs.Prelude.{ℕ, cond, eqb}
use Rattle.c_record.specs.declared.record.PhaseNumber.{PhaseNumber}
use Rattle.c_record.specs.declared.record.PhaseNumber.TheVariants as number

-- 0 searching, 1 collecting, 2 reported, 4 cut short; 3, and every number that no session has, unfound
abbrev pub phase_numbered : ℕ → PhaseNumber
phase_numbered n =
    cond (eqb n 0) number.Searching
    (cond (eqb n 1) number.Collecting (cond (eqb n 2) number.Reported (cond (eqb n 4) number.CutShort number.Unfound)))
