-- Flags that are all 0: the counts of the fold are 0, so the edge is at column 0 and the quality is 0; there is no slant, and the rate stays.
-- Assumes nothing.
use mathlib.Core.Path.{◌≡◌, refl, sym, ap, ◌∙◌}
use mathlib.Core.Bool.{Bool, true, false, not}
use mathlib.Core.List.{List, [], ◌∷◌}
use Prim.Native.Nat.{ℕ, zero, suc, ◌*◌, ◌%◌, ◌≤◌, ◌<◌}
use native.Mathlib.Omega.{arith}
use lib.ListN.{length, get_or, take, get_or-eq_default}
use lib.Dec.{T, ltb, ltb→lt, nltb→le}
use lib.IntN.{ℤ, pos, negsuc}
use lib.Ieee.{Float, nan, inf, fin, binary64, add, of_int}
use Rattle.limits.specs.Ranges.{all_at_most}
use Rattle.modespec.specs.declared.ModeSpec.{ModeSpec}
use Rattle.modespec.specs.ModeSpec.{spec_of, rows}
use Rattle.modespec.specs.Sizes.{radio_lines, pulse_columns, image_probes, line_width}
use Rattle.modespec.proofs.Rows.{holds, radio_lines_lem}
use Rattle.columns.specs.Columns.{probe_of}
use Rattle.columns.proofs.Lists.{get_d_list}
use Rattle.std.specs.Prelude.{None, Ok}
use Rattle.hough.specs.Pass.{pass_of}
use Rattle.hough.specs.Passes.{passes_from, passes_of}
use Rattle.hough.proofs.Meaning.{zero_flags}
use Rattle.pulse.specs.PulseWindow.{window_sum, best_window}
use Rattle.pulse.specs.Median.{median_of, count_at_most}
use Rattle.pulse.specs.Edge.{fall_at, edge_of}
use Rattle.pulse.specs.Quality.{quality_by, quality_of}
use Rattle.pulse.proofs.Sums.{sum_below}
use Rattle.pulse.proofs.Largest.{best_sum}
use Rattle.pulse.proofs.Sorting.{count_all, median_is}
use Rattle.pulse.proofs.Answers.{edge_none, quality_some}
use Rattle.sync.specs.Fold.{line_seconds, column_seconds, flag_at, fold_flag, column_count, fold_of}
use Rattle.sync.specs.declared.SyncResult.{SyncResult}
use Rattle.sync.specs.FindSync.{skip_of, aligned_by, aligned_of, sync_result_of, silent_result, rate_allowed, sync_answer}
use Rattle.sync.proofs.Folding.{fold_length}
use Rattle.sync.proofs.Refusals.{refuse_none}

take_zeros : (n : ℕ) (l : List ℕ) → ((k : ℕ) → get_or l k 0 ≡ 0) → (k : ℕ) → get_or (take n l) k 0 ≡ 0
take_zeros zero l h k = refl
take_zeros (suc n) [] h k = refl
take_zeros (suc n) (x ∷ l) h zero = h 0
take_zeros (suc n) (x ∷ l) h (suc k) = take_zeros n l (λ j. h (suc j)) k

-- no slant, and the rate stays
passes_zeros : (spec : ModeSpec) (rate : Float) (flags : List ℕ) → ((k : ℕ) → get_or flags k 0 ≡ 0) → passes_of spec rate flags ≡ record { rate = rate; slant_deg = None }
unfolding passes_of passes_from
passes_zeros spec rate flags h = rw (zero_flags (pass_of flags rate spec (line_width spec)) h)

fold_zeros : (flags : List ℕ) (rate line : Float) (n : ℕ) → ((k : ℕ) → get_or flags k 0 ≡ 0) → (x : ℕ) → x < 700 → get_or (fold_of flags rate line n) x 0 ≡ 0
unfolding fold_of fold_flag flag_at
fold_zeros flags rate line n h x l =
    let b : column_count flags rate line n x ≤ n * 0 = sum_below (fold_flag flags rate line x) 0 0 n (λ y. omega (arith, h (probe_of (add binary64 (line_seconds line y) (column_seconds line x)) rate))) in
    get_d_list (column_count flags rate line n) 700 x 0 l ∙ omega arith

-- ---- counts that are all 0

count_zero : (flags : List ℕ) (rate line : Float) (n : ℕ) → ((k : ℕ) → get_or flags k 0 ≡ 0) → (x : ℕ) → get_or (fold_of flags rate line n) x 0 ≤ 0
count_zero flags rate line n h x = any (ltb x 700) (ltb→lt x 700) (nltb→le x 700)
  where
    any : (t : Bool) → (T t → x < 700) → (T (not t) → 700 ≤ x) → get_or (fold_of flags rate line n) x 0 ≤ 0
    any true a b = omega (arith, fold_zeros flags rate line n h x (a tt))
    any false a b = let l : length (fold_of flags rate line n) ≤ x = omega (arith, fold_length flags rate line n, b tt) in omega (arith, get_or-eq_default (fold_of flags rate line n) 0 l)

-- the quality of such counts, for each row
abbrev zero64 : Float → Bool
zero64 nan = false
zero64 (inf s) = false
zero64 (fin true m e) = false
zero64 (fin false zero (pos zero)) = true
zero64 (fin false zero (pos (suc e))) = false
zero64 (fin false zero (negsuc e)) = false
zero64 (fin false (suc m) e) = false

is_zero : (x : Float) → T (zero64 x) → x ≡ fin false 0 (pos 0)
is_zero nan t = absurd t
is_zero (inf s) t = absurd t
is_zero (fin true m e) t = absurd t
is_zero (fin false zero (pos zero)) t = refl
is_zero (fin false zero (pos (suc e))) t = absurd t
is_zero (fin false zero (negsuc e)) t = absurd t
is_zero (fin false (suc m) e) t = absurd t

none_by : (mode : ℕ) → quality_by 0 (pulse_columns (spec_of mode) 700) 0 (radio_lines (spec_of mode)) ≡ fin false 0 (pos 0)
unfolding quality_by pulse_columns radio_lines rows of_int
none_by mode = is_zero _ (holds (λ (spec : ModeSpec). zero64 (quality_by 0 (pulse_columns spec 700) 0 (radio_lines spec))) tt mode)

module _ (counts : List ℕ) (size : length counts ≡ 700) (z : (x : ℕ) → get_or counts x 0 ≤ 0) where
  edge_zeros : edge_of counts ≡ 0
  edge_zeros =
      let f : (x : ℕ) → fall_at counts x ≤ 0 = λ x. omega (arith, sum_below (λ k. get_or counts k 0) 0 x 4 z) in
      sym (edge_none counts 0 0 (record { within = omega arith; reached = omega (arith, f 0); highest = λ k l. f k; first = λ k l. absurd (omega arith) }) refl)

  best_zeros : (width : ℕ) → 0 ≡ (best_window counts width).sum
  best_zeros width =
      let f : (x : ℕ) → window_sum counts width x ≤ 0 = λ x. omega (arith, sum_below (λ k. get_or counts (k % length counts) 0) 0 x width (λ k. z (k % length counts))) in
      best_sum counts width 0 0 (record { within = omega (arith, size); reached = omega (arith, f 0); highest = λ k l. f k; first = λ k l. absurd (omega arith) })

  median_zeros : 0 ≡ median_of counts
  median_zeros =
      let n : count_at_most 0 counts ≡ length counts = count_all 0 counts (λ k l. z k) in
      median_is counts 0 (omega (arith, n, size)) (λ v l. absurd (omega arith))

  quality_zeros : (mode : ℕ) → quality_of counts (spec_of mode) (radio_lines (spec_of mode)) ≡ fin false 0 (pos 0)
  quality_zeros mode =
      sym (quality_some counts (spec_of mode) (radio_lines (spec_of mode)) (pulse_columns (spec_of mode) 700) 0 0 (λ e. omega (arith, size)) (λ e. omega (arith, (radio_lines_lem mode).low))
      (ap (pulse_columns (spec_of mode)) (sym size)) (best_zeros (pulse_columns (spec_of mode) 700)) median_zeros)
      ∙ none_by mode

-- ---- the answer

pub silent : (mode : ℕ) (rate : Float) (flags : List ℕ) → ((k : ℕ) → get_or flags k 0 ≡ 0) → sync_result_of (spec_of mode) rate flags ≡ silent_result (spec_of mode) rate
unfolding sync_result_of aligned_of aligned_by
silent mode rate flags h =
    let spec = spec_of mode in
    let read = take (image_probes spec rate) flags in
    let z : (k : ℕ) → get_or read k 0 ≡ 0 = take_zeros (image_probes spec rate) flags h in
    let counts = fold_of read rate spec.line_seconds spec.image_lines in
    let size : length counts ≡ 700 = fold_length read rate spec.line_seconds spec.image_lines in
    let none : (x : ℕ) → get_or counts x 0 ≤ 0 = count_zero read rate spec.line_seconds spec.image_lines z in
    ap (aligned_of read spec) (passes_zeros spec rate read z)
    ∙ parts (ap (λ (e : ℕ). skip_of e spec rate) (edge_zeros counts size none)) (quality_zeros counts size none mode)
  where
    parts : {k k' : ℤ} {x x' : Float} → k ≡ k' → x ≡ x'
        → ◌≡◌ {A = SyncResult} (record { adjusted_rate_hz = rate; skip_samples = k; slant_deg = None; sync_quality = x })
        (record { adjusted_rate_hz = rate; skip_samples = k'; slant_deg = None; sync_quality = x' })
    parts a b = cc

at_most_one : (flags : List ℕ) → ((k : ℕ) → get_or flags k 0 ≡ 0) → all_at_most 1 flags ≡ true
unfolding all_at_most
at_most_one [] h = refl
at_most_one (x ∷ l) h = rw (h 0, at_most_one l (λ k. h (suc k)))

-- the call: whatever the work memory holds
pub silent_answer : (mode : ℕ) (rate : Float) (flags img votes : List ℕ) → mode ≤ 15 → rate_allowed rate ≡ true → 441000 ≤ length img → 144000 ≤ length votes
    → length flags ≤ 16777216 → ((k : ℕ) → get_or flags k 0 ≡ 0) → sync_answer flags rate mode img votes ≡ Ok (silent_result (spec_of mode) rate)
unfolding sync_answer
silent_answer mode rate flags img votes m r i v n h =
    let e = refuse_none flags rate mode (length img) (length votes) m r i v n (at_most_one flags h) in
    rw e (ap Ok (silent mode rate flags h))
