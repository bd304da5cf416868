-- `find_sync` (01-scope.md, "Slant and rate", "Numbers given by cause", "Known answers"): what it answers, and what it does to the work memory.
-- Definitions only.
use Rattle.std.specs.Prelude.{◌≡◌, ℕ, ◌≤◌, Bool, false, not, ◌&&◌, ◌||◌, List, [], ◌∷◌, length, take, ltb, ℤ, pos, Float, None, Result, Ok, Err}
use Rattle.std.specs.Float.{fin, binary64}
use Rattle.std.specs.Float.Ieee.{add, sub, mul, div, le, of_int, to_signed}
use Rattle.limits.specs.declared.Refusal.{Refusal}
use Rattle.limits.specs.declared.Refusal.TheVariants as why
use Rattle.limits.specs.Refusals.{Cause, ◌⇒◌, first_of}
use Rattle.limits.specs.Ranges.{any_above}
use Rattle.ieee.specs.Numbers.{of_nat}
use Rattle.ieee.specs.Casts.{round_away}
use Rattle.modespec.specs.declared.ModeSpec.{ModeSpec}
use Rattle.modespec.specs.ModeSpec.{spec_of}
use Rattle.modespec.specs.Sizes.{radio_lines, skip_correction, image_probes, line_width}
use Rattle.hough.specs.declared.Passes.{Passes}
use Rattle.hough.specs.Memory.{cleared}
use Rattle.hough.specs.Passes.{passes_of}
use Rattle.pulse.specs.Quality.{PulseFits, quality_of}
use Rattle.pulse.specs.Edge.{edge_of}
use Rattle.sync.specs.Fold.{fold_of}
use Rattle.sync.specs.declared.SyncResult.{SyncResult}

-- `skip_seconds_for`: (edge / 700) * L - S, and the mode's correction
unfoldable pub skip_seconds : ℕ → ModeSpec → Float
unfolding add sub mul div of_int skip_correction
skip_seconds edge spec =
    add binary64 (sub binary64 (mul binary64 (div binary64 (of_nat edge) (of_nat 700)) spec.line_seconds) spec.sync_seconds) (skip_correction spec)

-- the skip in samples, rounded
unfoldable pub skip_of : ℕ → ModeSpec → Float → ℤ
unfolding mul round_away to_signed skip_seconds
skip_of edge spec rate = to_signed 63 (round_away binary64 (mul binary64 (skip_seconds edge spec) rate))

-- what the counts of the final fold give: the skip from the edge, and the quality by the lines on the radio
unfoldable pub aligned_by : ModeSpec → Passes → List ℕ → SyncResult
aligned_by spec passes counts =
    record {
      adjusted_rate_hz = passes.rate;
      skip_samples = skip_of (edge_of counts) spec passes.rate;
      slant_deg = passes.slant_deg;
      sync_quality = quality_of counts spec (radio_lines spec);
    }

-- after the passes, `image_lines` lines are folded
unfoldable pub aligned_of : List ℕ → ModeSpec → Passes → SyncResult
aligned_of flags spec passes = aligned_by spec passes (fold_of flags passes.rate spec.line_seconds spec.image_lines)

-- only the first P flags are read
unfoldable pub sync_result_of : ModeSpec → Float → List ℕ → SyncResult
sync_result_of spec rate flags = let read = take (image_probes spec rate) flags in aligned_of read spec (passes_of spec rate read)

-- what flags that are all 0 give: the starting rate, no slant, the skip of an edge at column 0, quality 0. proofs/Silence.antt shows it.
abbrev pub silent_result : ModeSpec → Float → SyncResult
silent_result spec rate = record { adjusted_rate_hz = rate; skip_samples = skip_of 0 spec rate; slant_deg = None; sync_quality = fin false 0 (pos 0) }

-- the row is one that the inner form takes; every mode's is. Two clauses ask for it: a ghost field of ModeSpec would ask it of all who make a row.
pub record SpecFits (spec : ModeSpec) : Type 0 where
  pub width : line_width spec ≤ 65536
  pub lines : spec.image_lines ≤ 65536
  pub radio : radio_lines spec ≤ 65536
  pub pulse : PulseFits spec 700

-- the inner form: the answer is the definition's, and the work memory comes back as 0 in its extent
pub record SyncDone (answer r : SyncResult) (im im' vo vo' : List ℕ) : Type 0 where
  pub result : r ≡ answer
  pub img : im' ≡ cleared 441000 im
  pub votes : vo' ≡ cleared 144000 vo

-- ---- the call

-- from 8,000 to 48,000, which no NaN and no infinity is
unfoldable pub rate_allowed : Float → Bool
unfolding le of_int
rate_allowed rate = le (of_nat 8000) rate && le rate (of_nat 48000)

-- rate, work memory, how many flags, a flag
abbrev pub causes : List ℕ → Float → ℕ → ℕ → List Cause
causes flags rate img_places votes_places =
    (not (rate_allowed rate) ⇒ why.Rate)
    ∷ ((ltb img_places 441000 || ltb votes_places 144000) ⇒ why.Memory)
    ∷ (ltb 16777216 (length flags) ⇒ why.Length)
    ∷ (any_above flags ⇒ why.Flag)
    ∷ []

-- the first cause that applies, or none: the mode, and then those above
unfoldable pub sync_refusal : List ℕ → Float → ℕ → ℕ → ℕ → Result Unit Refusal
sync_refusal flags rate mode img_places votes_places = first_of ((ltb 15 mode ⇒ why.Mode) ∷ causes flags rate img_places votes_places)

abbrev pub answer_by : Result Unit Refusal → SyncResult → Result SyncResult Refusal
answer_by (Ok u) result = Ok result
answer_by (Err e) result = Err e

-- a refusal writes nothing
abbrev pub memory_by : Result Unit Refusal → ℕ → List ℕ → List ℕ
memory_by (Ok u) extent memory = cleared extent memory
memory_by (Err e) extent memory = memory

unfoldable pub sync_answer : List ℕ → Float → ℕ → List ℕ → List ℕ → Result SyncResult Refusal
sync_answer flags rate mode img votes = answer_by (sync_refusal flags rate mode (length img) (length votes)) (sync_result_of (spec_of mode) rate flags)

unfoldable pub memory_after : List ℕ → Float → ℕ → List ℕ → List ℕ → ℕ → List ℕ → List ℕ
memory_after flags rate mode img votes extent memory = memory_by (sync_refusal flags rate mode (length img) (length votes)) extent memory

-- the call's answer and both memories
pub record SyncCall (flags : List ℕ) (rate : Float) (mode : ℕ) (r : Result SyncResult Refusal) (im im' vo vo' : List ℕ) : Type 0 where
  pub answer : r ≡ sync_answer flags rate mode im vo
  pub img : im' ≡ memory_after flags rate mode im vo 441000 im
  pub votes : vo' ≡ memory_after flags rate mode im vo 144000 vo
