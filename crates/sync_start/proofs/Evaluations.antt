-- Laws of an evaluation for the session: the streak, the flags and samples that are read, the bounds on a start and its count. Assumes nothing.
use Rattle.std.proofs.Common.{◌≡◌, ℕ, ◌+◌, ◌*◌, ◌^◌, ◌<◌, ◌≤◌, min, Bool, true, false, cond, ltb, List, [], ◌++◌, length, get_or, take, drop, pos, sym, refl, ◌∙◌, le_trans, le_of_lt, arith, lit<, lit≤, length-take, get_or-take, Option, Some, None}
use mathlib.Core.List.Memᴰ
use mathlib.Core.List.{Memᴰ}
use lib.Ieee.{Float, fin, lt}
use lib.Seq.{take-append-le}
use Rattle.modespec.specs.ModeSpec.{spec_of}
use Rattle.modespec.specs.Sizes.{robot, line_samples, window_lines, pulse_columns}
use Rattle.sync_start.specs.declared.Evaluation.{Evaluation}
use Rattle.sync_start.specs.declared.Located.{Located}
use Rattle.sync_start.specs.Evaluate.{counts_of, line_in, column_of, windows_of, line_start, even_start, position_of, located_by, window_quality, streak_after, start_quality, locate_in, locate_of, reads_by, reads_in, evaluation_by, taken_at, known_at, evaluation_of, reads_of, parity_reads}
use Rattle.window_fold.specs.Fold.{fold_of}
use Rattle.line_parity.specs.Parity.{odd_line}
use Rattle.window_fold.proofs.Folding.{fold_length}
use Rattle.pulse.proofs.Largest.{best_within, windows_some, windows_most}
use Rattle.sync_start.proofs.Sizes.{sized}
use Rattle.sync_start.proofs.Positions.{line_within, timed, position_most}
use Rattle.sync_start.proofs.Samples.{sample_of, start_others, start_same, reads_below}

-- ---- the streak

by_streak_step : (mode j : ℕ) (flags : List ℕ) (samples : List Float) (streak : ℕ) → (evaluation_by mode j flags samples streak).streak ≤ streak + 1
unfolding evaluation_by streak_after
by_streak_step mode j flags samples streak = at (lt (window_quality mode j flags) start_quality)
  where
    at : (b : Bool) → cond b 0 (streak + 1) ≤ streak + 1
    at true = omega arith
    at false = omega arith

-- ---- the samples

-- the quality and the streak hang on the flags alone
by_flags_only : (mode j : ℕ) (flags : List ℕ) (s t : List Float) (streak : ℕ)
    → ((evaluation_by mode j flags s streak).quality ≡ (evaluation_by mode j flags t streak).quality)
    × ((evaluation_by mode j flags s streak).streak ≡ (evaluation_by mode j flags t streak).streak)
unfolding evaluation_by
by_flags_only mode j flags s t streak = (refl, refl)

same_start : (mode j : ℕ) (flags : List ℕ) (s t : List Float) (streak : ℕ)
    → (ltb (streak_after (window_quality mode j flags) streak) 3 ≡ false → locate_of mode j flags s ≡ locate_of mode j flags t)
    → evaluation_by mode j flags s streak ≡ evaluation_by mode j flags t streak
unfolding evaluation_by
same_start mode j flags s t streak h = at (ltb (streak_after (window_quality mode j flags) streak) 3) refl
  where
    at : (b : Bool) → ltb (streak_after (window_quality mode j flags) streak) 3 ≡ b
        → ◌≡◌ {A = Evaluation}
        (record { quality = window_quality mode j flags; streak = streak_after (window_quality mode j flags) streak; start = cond (ltb (streak_after (window_quality mode j flags) streak) 3) None (locate_of mode j flags s) })
        (record { quality = window_quality mode j flags; streak = streak_after (window_quality mode j flags) streak; start = cond (ltb (streak_after (window_quality mode j flags) streak) 3) None (locate_of mode j flags t) })
    at true e = rw e
    at false e = rw (e, h e)

-- other modes than Robot 24 and 36 never look at samples
by_other_modes : (mode j : ℕ) (flags : List ℕ) (s t : List Float) (streak : ℕ) → robot mode ≡ false → evaluation_by mode j flags s streak ≡ evaluation_by mode j flags t streak
unfolding locate_of locate_in
by_other_modes mode j flags s t streak e =
    same_start mode j flags s t streak
    (λ h. start_others mode (spec_of mode) (64 * j) (column_of (spec_of mode) (counts_of mode j flags)) (windows_of (spec_of mode) (counts_of mode j flags)) (line_in (spec_of mode) (64 * j) (counts_of mode j flags) flags) s t e)

known_is : (flags : List ℕ) → 4 * length flags + 4 ≡ 4 * (length flags + 1)
known_is flags = omega arith

-- where two lists agree on the samples that are read, so do the evaluations
by_parity_only : (mode j : ℕ) (flags : List ℕ) (s t : List Float) (streak : ℕ)
    → length s ≡ 4 * length flags + 4 → length t ≡ 4 * length flags + 4
    → ((n : ℕ) → Memᴰ n (reads_of mode j flags streak) → get_or s n (fin false 0 (pos 0)) ≡ get_or t n (fin false 0 (pos 0)))
    → evaluation_by mode j flags s streak ≡ evaluation_by mode j flags t streak
unfolding reads_of reads_in locate_of locate_in
by_parity_only mode j flags s t streak a b h = by (robot mode) refl
  where
    located : ((n : ℕ) → Memᴰ n (reads_in (spec_of mode) (64 * j) (counts_of mode j flags) flags) → sample_of s n ≡ sample_of t n) → locate_of mode j flags s ≡ locate_of mode j flags t
    located k =
        start_same mode (spec_of mode) (64 * j) (column_of (spec_of mode) (counts_of mode j flags)) (windows_of (spec_of mode) (counts_of mode j flags)) (line_in (spec_of mode) (64 * j) (counts_of mode j flags) flags) flags s t
        (a ∙ known_is flags) (b ∙ known_is flags) k

    by : (r : Bool) → robot mode ≡ r → evaluation_by mode j flags s streak ≡ evaluation_by mode j flags t streak
    by true e =
        same_start mode j flags s t streak
        (λ q. located (λ n m. h n (rw (e, q) m)))
    by false e = by_other_modes mode j flags s t streak e

-- every sample that is read is known
by_reads_known : (mode j : ℕ) (flags : List ℕ) (streak n : ℕ) → Memᴰ n (reads_of mode j flags streak) → n < 4 * length flags + 4
unfolding reads_of reads_in
by_reads_known mode j flags streak n m = by (robot mode) (ltb (streak_after (window_quality mode j flags) streak) 3) (line_in (spec_of mode) (64 * j) (counts_of mode j flags) flags) m
  where
    by : (r q : Bool) (l : Option ℕ)
        → Memᴰ n (cond r (cond q [] (reads_by l (spec_of mode) (64 * j) flags (column_of (spec_of mode) (counts_of mode j flags)))) []) → n < 4 * length flags + 4
    by true false (Some y) k =
        let l : n < 4 * (length flags + 1) = reads_below (spec_of mode) (4 * (length flags + 1)) (line_start (spec_of mode) (64 * j) (column_of (spec_of mode) (counts_of mode j flags)) y) (window_lines (spec_of mode)) n k in
        omega arith
    by true false None k = absurd (Memᴰ.not-nil k)
    by true true l k = absurd (Memᴰ.not-nil k)
    by false q l k = absurd (Memᴰ.not-nil k)

-- ---- the start

fold_long : (mode j : ℕ) (flags : List ℕ) → length (counts_of mode j flags) ≡ 700
unfolding fold_of
fold_long mode j flags = fold_length (line_samples (spec_of mode)) (drop (64 * j) flags) (window_lines (spec_of mode))

fold_some : (mode j : ℕ) (flags : List ℕ) → 0 < length (counts_of mode j flags)
fold_some mode j flags = rw (fold_long mode j flags) (lit< tt)

column_few : (mode j : ℕ) (flags : List ℕ) → column_of (spec_of mode) (counts_of mode j flags) ≤ 700
column_few mode j flags =
    le_of_lt (rw (fold_long mode j flags) at (best_within (counts_of mode j flags) (pulse_columns (spec_of mode) 700) (fold_some mode j flags)))

-- the line of a start, where it lies, and its count
abbrev Found : (mode j : ℕ) → List ℕ → List Float → Located → Option ℕ → Type 0
Found mode j flags samples place l =
    let s = spec_of mode in
    let c = column_of s (counts_of mode j flags) in
    (y : ℕ) × (l ≡ Some y)
    × (place.position ≡ position_of s (even_start (odd_line mode s samples (line_start s (64 * j) c y)) s (line_start s (64 * j) c y)))
    × (place.windows ≡ windows_of s (counts_of mode j flags))

by_line : (mode j : ℕ) (flags : List ℕ) (samples : List Float) (streak : ℕ) (place : Located) → (evaluation_by mode j flags samples streak).start ≡ Some place
    → Found mode j flags samples place (line_in (spec_of mode) (64 * j) (counts_of mode j flags) flags)
unfolding evaluation_by locate_of locate_in
by_line mode j flags samples streak place e =
    by (ltb (streak_after (window_quality mode j flags) streak) 3) (line_in (spec_of mode) (64 * j) (counts_of mode j flags) flags) e
  where
    by : (q : Bool) (l : Option ℕ)
        → cond q None (located_by l mode (spec_of mode) (64 * j) (column_of (spec_of mode) (counts_of mode j flags)) (windows_of (spec_of mode) (counts_of mode j flags)) samples) ≡ Some place
        → Found mode j flags samples place l
    by true l p = cc
    by false None p = cc
    by false (Some y) p = (y, refl, cc, cc)

-- a start lies below 2 ^ 31, and so it fits with every anchor and every size
by_position_below : (mode j : ℕ) (flags : List ℕ) (samples : List Float) (streak : ℕ) (place : Located) → 64 * j ≤ 16777216
    → (evaluation_by mode j flags samples streak).start ≡ Some place → place.position ≤ 2 ^ 31
by_position_below mode j flags samples streak place h e =
    let k = by_line mode j flags samples streak place e in
    let s = spec_of mode in
    let c = column_of s (counts_of mode j flags) in
    let few : k.0 ≤ 64 = le_trans (line_within s (64 * j) flags c (pulse_columns s 700) k.0 k.1) (sized mode).lines in
    rw k.2 (position_most s (timed mode) (odd_line mode s samples (line_start s (64 * j) c k.0)) (64 * j) c k.0 h (column_few mode j flags) few)

-- the count beside a start is that of its own evaluation's windows, from 1 to 700
by_windows : (mode j : ℕ) (flags : List ℕ) (samples : List Float) (streak : ℕ) (place : Located) → (evaluation_by mode j flags samples streak).start ≡ Some place → (1 ≤ place.windows) × (place.windows ≤ 700)
by_windows mode j flags samples streak place e =
    let k = by_line mode j flags samples streak place e in
    let n = pulse_columns (spec_of mode) 700 in
    rw k.3
    (windows_some (counts_of mode j flags) n (fold_some mode j flags), rw (fold_long mode j flags) at (windows_most (counts_of mode j flags) n))

-- ---- flags and samples that come later

-- an evaluation hangs on the flags taken and the samples known
pub same_front : (mode j : ℕ) (a b : List ℕ) (s t : List Float) (streak : ℕ)
    → take (taken_at mode j) a ≡ take (taken_at mode j) b → take (known_at mode j) s ≡ take (known_at mode j) t
    → evaluation_of mode j a s streak ≡ evaluation_of mode j b t streak
unfolding evaluation_of
same_front mode j a b s t streak e d = rw (e, d)

-- flags from 64j + w on change nothing
pub later_flags : (mode j : ℕ) (flags more : List ℕ) (samples : List Float) (streak : ℕ) → taken_at mode j ≤ length flags
    → evaluation_of mode j (flags ++ more) samples streak ≡ evaluation_of mode j flags samples streak
later_flags mode j flags more samples streak h =
    same_front mode j (flags ++ more) flags samples samples streak (take-append-le (taken_at mode j) flags more h) refl

-- nor do samples from 4 × (64j + w + 1) on
pub later_samples : (mode j : ℕ) (flags : List ℕ) (samples more : List Float) (streak : ℕ) → known_at mode j ≤ length samples
    → evaluation_of mode j flags (samples ++ more) streak ≡ evaluation_of mode j flags samples streak
later_samples mode j flags samples more streak h =
    same_front mode j flags flags (samples ++ more) samples streak refl (take-append-le (known_at mode j) samples more h)

-- ---- the laws above, for lists of any length

pub streak_step : (mode j : ℕ) (flags : List ℕ) (samples : List Float) (streak : ℕ) → (evaluation_of mode j flags samples streak).streak ≤ streak + 1
unfolding evaluation_of
streak_step mode j flags samples streak = by_streak_step mode j (take (taken_at mode j) flags) (take (known_at mode j) samples) streak

pub flags_only : (mode j : ℕ) (flags : List ℕ) (s t : List Float) (streak : ℕ)
    → ((evaluation_of mode j flags s streak).quality ≡ (evaluation_of mode j flags t streak).quality)
    × ((evaluation_of mode j flags s streak).streak ≡ (evaluation_of mode j flags t streak).streak)
unfolding evaluation_of
flags_only mode j flags s t streak = by_flags_only mode j (take (taken_at mode j) flags) (take (known_at mode j) s) (take (known_at mode j) t) streak

pub other_modes : (mode j : ℕ) (flags : List ℕ) (s t : List Float) (streak : ℕ) → robot mode ≡ false → evaluation_of mode j flags s streak ≡ evaluation_of mode j flags t streak
unfolding evaluation_of
other_modes mode j flags s t streak e = by_other_modes mode j (take (taken_at mode j) flags) (take (known_at mode j) s) (take (known_at mode j) t) streak e

-- with four samples to a flag and four more, the known samples are those of the flags taken
known_cut : (n : ℕ) (flags : List ℕ) (s : List Float) → length s ≡ 4 * length flags + 4 → length (take (4 * (n + 1)) s) ≡ 4 * length (take n flags) + 4
known_cut n flags s e = rw (length-take (4 * (n + 1)) s, length-take n flags) (omega arith)

seen_few : (n : ℕ) (flags : List ℕ) → length (take n flags) ≤ min n (length flags)
seen_few n flags = rw length-take (omega arith)

pub parity_only : (mode j : ℕ) (flags : List ℕ) (s t : List Float) (streak : ℕ)
    → length s ≡ 4 * length flags + 4 → length t ≡ 4 * length flags + 4
    → ((n : ℕ) → Memᴰ n (parity_reads mode j flags streak) → get_or s n (fin false 0 (pos 0)) ≡ get_or t n (fin false 0 (pos 0)))
    → evaluation_of mode j flags s streak ≡ evaluation_of mode j flags t streak
unfolding evaluation_of parity_reads
parity_only mode j flags s t streak a b h =
    let w = taken_at mode j in
    let k = known_at mode j in
    by_parity_only mode j (take w flags) (take k s) (take k t) streak (known_cut w flags s a) (known_cut w flags t b)
    (λ n m.
    let r : n < 4 * length (take w flags) + 4 = by_reads_known mode j (take w flags) streak n m in
    let f : length (take w flags) ≤ min w (length flags) = seen_few w flags in
    let l : n < k = omega arith in
    get_or-take k s n (fin false 0 (pos 0)) l ∙ h n m ∙ sym (get_or-take k t n (fin false 0 (pos 0)) l))

pub reads_known : (mode j : ℕ) (flags : List ℕ) (streak n : ℕ) → Memᴰ n (parity_reads mode j flags streak) → n < 4 * length flags + 4
unfolding parity_reads
reads_known mode j flags streak n m =
    let w = taken_at mode j in
    let r : n < 4 * length (take w flags) + 4 = by_reads_known mode j (take w flags) streak n m in
    let f : length (take w flags) ≤ min w (length flags) = seen_few w flags in
    omega arith

pub position_small : (mode j : ℕ) (flags : List ℕ) (samples : List Float) (streak : ℕ) (place : Located) → mode ≤ 15 → 64 * j ≤ 16777216
    → (evaluation_of mode j flags samples streak).start ≡ Some place → place.position ≤ 2 ^ 62
unfolding evaluation_of
position_small mode j flags samples streak place m h e =
    le_trans (by_position_below mode j (take (taken_at mode j) flags) (take (known_at mode j) samples) streak place h e) (lit≤ tt)

pub start_windows : (mode j : ℕ) (flags : List ℕ) (samples : List Float) (streak : ℕ) (place : Located)
    → (evaluation_of mode j flags samples streak).start ≡ Some place → (1 ≤ place.windows) × (place.windows ≤ 700)
unfolding evaluation_of
start_windows mode j flags samples streak place e = by_windows mode j (take (taken_at mode j) flags) (take (known_at mode j) samples) streak place e
