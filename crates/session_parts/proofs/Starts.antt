-- The position of a phase's start. Assumes nothing.
use Rattle.std.proofs.Common.{◌≡◌, ℕ, refl, Option, None, Some}
use Rattle.plain.specs.declared.Start.{Start}
use Rattle.plain.specs.declared.Phase.{Phase}
use Rattle.plain.specs.declared.Phase.TheVariants.{Searching, Collecting, Reported, Unfound, CutShort}
use Rattle.session_parts.specs.Phases.{start_in, position_of}

abbrev pub position_or_zero : Option Start → ℕ
position_or_zero None = 0
position_or_zero (Some s) = s.position

-- it is that of the start, and 0 where there is none
pub position_of_start : (h : Phase) → position_of h ≡ position_or_zero (start_in h)
position_of_start Searching = refl
position_of_start (Collecting s) = refl
position_of_start (Reported s r) = refl
position_of_start Unfound = refl
position_of_start (CutShort s) = refl
