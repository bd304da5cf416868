-- Phases and the sizes that decide when they change (01-scope.md, "Session", "Start search"). Definitions only.
use Rattle.std.specs.Prelude.{◌≡◌, ℕ, ◌+◌, ◌%◌, ◌^◌, ◌<◌, ◌≤◌, false, Option, None, Some}
use Rattle.plain.specs.declared.Start.{Start}
use Rattle.plain.specs.declared.Phase.{Phase}
use Rattle.plain.specs.declared.Phase.TheVariants.{Searching, Collecting, Reported, Unfound, CutShort}
use Rattle.plain.specs.Plain.{due_at, window_of, picture_of}

-- the start that a phase has
abbrev pub start_in : Phase → Option Start
start_in Searching = None
start_in (Collecting s) = Some s
start_in (Reported s r) = Some s
start_in Unfound = None
start_in (CutShort s) = Some s

-- its position, 0 where there is none
abbrev pub position_of : Phase → ℕ
position_of Searching = 0
position_of (Collecting s) = s.position
position_of (Reported s r) = s.position
position_of Unfound = 0
position_of (CutShort s) = s.position

-- the start, a number of 64 bits
abbrev pub start_of : ℕ → Start → ℕ
start_of anchor s = (anchor + s.position) % 2 ^ 64

-- a size of a mode, with the bound that keeps sums of sizes and positions within a word
pub record WindowIs (mode r : ℕ) : Type 0 where
  pub is : r ≡ window_of mode
  pub small : r ≤ 16777216

pub record PictureIs (mode r : ℕ) : Type 0 where
  pub is : r ≡ picture_of mode
  pub small : r ≤ 16777216

-- flags to the next evaluation: none is due before
pub record DueIn (mode taken r : ℕ) : Type 0 where
  pub some : 0 < r
  pub none : (k : ℕ) → taken < k → k < taken + r → due_at mode k ≡ false
