-- An evaluation by its steps: the counts, the quality, the streak and the start. Assumes nothing.
use Rattle.std.proofs.Common.{◌≡◌, ℕ, ◌*◌, ◌<◌, ◌≤◌, List, drop, le-ltb, lt-ltb, Option, None}
use lib.Ieee.{Float}
use Rattle.modespec.specs.declared.ModeSpec.{ModeSpec}
use Rattle.modespec.specs.ModeSpec.{spec_of}
use Rattle.modespec.specs.Sizes.{line_samples, window_lines}
use Rattle.pulse.specs.Quality.{quality_of}
use Rattle.sync_start.specs.declared.Located.{Located}
use Rattle.sync_start.specs.declared.Evaluation.{Evaluation}
use Rattle.window_fold.specs.Fold.{fold_to, fold_of}
use Rattle.sync_start.specs.Evaluate.{counts_of, window_quality, streak_after, locate_in, locate_of, evaluation_by}

-- an evaluation by its three parts
abbrev pub made : Float → ℕ → Option Located → Evaluation
made quality streak start = record { quality = quality; streak = streak; start = start }

module _ (mode j : ℕ) (flags : List ℕ) (spec : ModeSpec) (lines : ℕ) (counts : List ℕ) (s : spec ≡ spec_of mode) (l : lines ≡ window_lines spec) where
  pub counts_are : (window : List ℕ) (samples : Float) → samples ≡ line_samples spec → window ≡ drop (64 * j) flags → counts ≡ fold_to samples window lines
      → counts ≡ counts_of mode j flags
  unfolding fold_of
  counts_are window samples e w p = rw (← s, ← l, ← e, ← w) p

  module _ (samples : List Float) (streak next : ℕ) (quality : Float) (k : counts ≡ counts_of mode j flags) (q : quality ≡ quality_of counts spec lines)
      (n : next ≡ streak_after quality streak) where
    quality_is : quality ≡ window_quality mode j flags
    unfolding window_quality
    quality_is = rw (← k, ← s, ← l) q

    pub unlocated : next < 3 → made quality next None ≡ evaluation_by mode j flags samples streak
    unfolding evaluation_by
    unlocated h = rw (← quality_is, ← n, lt-ltb next 3 h)

    pub located : (start : Option Located) → 3 ≤ next → start ≡ locate_in mode spec (64 * j) counts flags samples → made quality next start ≡ evaluation_by mode j flags samples streak
    unfolding evaluation_by locate_of
    located start h p = rw (← quality_is, ← n, le-ltb next 3 h, ← k, ← s, ← p)
