-- A report of flags that are at most 1 holds only what a card may have. Assumes nothing.
use mathlib.Core.Path.{◌≡◌}
use mathlib.Core.Bool.{false}
use mathlib.Core.List.{List, [], ◌∷◌}
use Prim.Native.Nat.{ℕ, zero, suc, ◌≤◌, zero-le}
use native.Mathlib.Nat.{lt_of_le_of_lt}
use lib.Dec.{T, lit<, lit≤}
use borrow.Author.Tests.{not-false}
use lib.ListN.{length, get_or, take}
use lib.Ieee.{Float, binary64, fits}
use Rattle.ieee.proofs.Ranges.{In, in_above, in_below, in_positive, in_finite, in_under}
use Rattle.limits.specs.Ranges.{all_at_most, any_above}
use Rattle.limits.proofs.AtMost.{at_most_each}
use Rattle.columns.proofs.Lists.{list_below}
use Rattle.modespec.specs.ModeSpec.{spec_of}
use Rattle.modespec.specs.Sizes.{working_rate, radio_lines, image_probes}
use Rattle.hough.specs.Passes.{passes_of}
use Rattle.pulse.specs.Edge.{edge_of}
use Rattle.pulse.specs.Quality.{quality_of}
use Rattle.sync.specs.Fold.{column_count, fold_of}
use Rattle.sync.specs.FindSync.{aligned_by, aligned_of, sync_result_of}
use Rattle.sync.proofs.Folding.{fold_length, count_below}
use Rattle.sync.proofs.Whole.{edge_below, mode_fits}
use Rattle.report_range.specs.Report.{Part, Rate, SoundReport}
use Rattle.report_range.proofs.QualityRange.{quality_of_part}
use Rattle.report_range.proofs.Rates.{Reached, passes_reach}
use Rattle.report_range.proofs.SkipRange.{skip_under}

rate_of_lem : (x : Float) → T (fits binary64 x) → In 7997 14053 x → Rate x
rate_of_lem x f i =
    record {
      fits = f;
      positive = in_positive 7997 14053 x (lit< tt) i;
      finite = in_finite 7997 14053 x i;
      low = in_above 7997 14053 x (lit≤ tt) i;
      high = in_below 7997 14053 x (lit≤ tt) i;
    }

-- ---- the flags that are read

take_below : (m n : ℕ) (xs : List ℕ) → ((k : ℕ) → get_or xs k 0 ≤ m) → (k : ℕ) → get_or (take n xs) k 0 ≤ m
take_below m zero xs h k = zero-le
take_below m (suc n) [] h k = h k
take_below m (suc n) (x ∷ xs) h zero = h 0
take_below m (suc n) (x ∷ xs) h (suc k) = take_below m n xs (λ i. h (suc i)) k

-- ---- the final fold

counts_below : (flags : List ℕ) (rate line : Float) (n : ℕ) → ((k : ℕ) → get_or flags k 0 ≤ 1) → n ≤ 65536 → (k : ℕ) → get_or (fold_of flags rate line n) k 0 ≤ 16711680
unfolding fold_of
counts_below flags rate line n h l = list_below (column_count flags rate line n) 700 16711680 (λ x. count_below flags rate line n x (λ k. lt_of_le_of_lt (h k) (lit< tt)) l)

fold_part : (mode : ℕ) (flags : List ℕ) (rate : Float) → ((k : ℕ) → get_or flags k 0 ≤ 1)
    → Part (quality_of (fold_of flags rate (spec_of mode).line_seconds (spec_of mode).image_lines) (spec_of mode) (radio_lines (spec_of mode)))
fold_part mode flags rate h =
    let spec = spec_of mode in
    let line = spec.line_seconds in
    let n = spec.image_lines in
    let row = mode_fits mode in
    let size : length (fold_of flags rate line n) ≡ 700 = fold_length flags rate line n in
    quality_of_part (fold_of flags rate line n) spec (radio_lines spec) (λ k. lt_of_le_of_lt (counts_below flags rate line n h row.lines k) (lit< tt))
    (rw size (lit≤ tt)) row.radio (rw size row.pulse)

-- ---- the report

pub report_sound : (mode : ℕ) (flags : List ℕ) → any_above flags ≡ false → SoundReport (sync_result_of (spec_of mode) working_rate flags)
unfolding sync_result_of aligned_of aligned_by
report_sound mode flags e =
    let spec = spec_of mode in
    let read = take (image_probes spec working_rate) flags in
    let passes = passes_of spec working_rate read in
    let R : Reached 7997 14053 passes = passes_reach mode read in
    let counts = fold_of read passes.rate spec.line_seconds spec.image_lines in
    record {
      rate = rate_of_lem passes.rate R.fits R.rate;
      slant = R.slant;
      skip = skip_under mode (edge_of counts) (edge_below counts) passes.rate (in_under 7997 14053 14 passes.rate (lit≤ tt) R.rate);
      quality = fold_part mode read passes.rate (take_below 1 (image_probes spec working_rate) flags (at_most_each 1 flags (not-false (all_at_most 1 flags) e)));
    }
