-- What a session's start and report can hold (02-change-requests.md, A.1, A.3): each field is one that a card may have, and the count beside a start is
-- from 1 to 700. Definitions only.
use Rattle.std.specs.Prelude.{ℕ, ◌^◌, ◌≤◌, ◌<◌, false, T, pos, nat_abs, Option, None, Some, Float}
use Rattle.std.specs.Float.{inf, fin, binary32, binary64}
use Rattle.std.specs.Float.Ieee.{lt, le, fits}
use Rattle.ieee.specs.Numbers.{of_nat}
use Rattle.hough.specs.Pass.{angle_of}
use Rattle.sync.specs.declared.SyncResult.{SyncResult}
use Rattle.plain.specs.declared.Start.{Start}
use Rattle.plain.specs.declared.Phase.{Phase}
use Rattle.plain.specs.declared.Phase.TheVariants.{Searching, Collecting, Reported, Unfound, CutShort}

-- a quality: an `f32` from 0 to 1
pub record Part (x : Float) : Type 0 where
  pub fits : T (fits binary32 x)
  pub low : T (le (fin false 0 (pos 0)) x)
  pub high : T (le x (fin false 1 (pos 0)))

-- a rate: an `f64`, positive and finite, which four passes can reach from 11,025 Hz
pub record Rate (x : Float) : Type 0 where
  pub fits : T (fits binary64 x)
  pub positive : T (lt (fin false 0 (pos 0)) x)
  pub finite : T (lt x (inf false))
  pub low : T (le (of_nat 7997) x)
  pub high : T (le x (of_nat 14053))

-- a slant: none, or one of the 240 angles
pub data Listed : Option Float → Type 0 where
  none : Listed None
  angle : (q : ℕ) → q < 240 → Listed (Some (angle_of q))

pub record SoundReport (r : SyncResult) : Type 0 where
  pub rate : Rate r.adjusted_rate_hz
  pub slant : Listed r.slant_deg
  pub skip : nat_abs r.skip_samples ≤ 2 ^ 29
  pub quality : Part r.sync_quality

-- a start: its quality, and how many of 700 windows have the largest sum
pub record SoundStart (s : Start) : Type 0 where
  pub quality : Part s.quality
  pub some : 1 ≤ s.windows
  pub most : s.windows ≤ 700

-- of a phase: the start and the report, where it has them
abbrev pub SoundPhase : Phase → Type 0
SoundPhase Searching = Unit
SoundPhase (Collecting s) = SoundStart s
SoundPhase (Reported s r) = SoundStart s × SoundReport r
SoundPhase Unfound = Unit
SoundPhase (CutShort s) = SoundStart s
