-- One evaluation (01-scope.md, "Start search"): `evaluate` and `locate_start` of sync_start.rs, and the samples that it reads; with the start
-- how many pulse windows have the largest sum (02-change-requests.md, A.3). Definitions only.
-- j is the evaluation's number. Flag and sample n stand at place n of their lists.
use Rattle.std.specs.Prelude.{ℕ, ◌+◌, ◌*◌, Bool, false, cond, List, [], length, take, drop, pos, nat_lt, Option, Some, None, Float}
use Rattle.std.specs.Float.{fin, binary32, binary64}
use Rattle.std.specs.Float.Ieee.{round, add, sub, mul, lt, to_unsigned}
use Rattle.ieee.specs.Numbers.{of_nat}
use Rattle.ieee.specs.Casts.{round_away, maximum}
use Rattle.modespec.specs.declared.ModeSpec.{ModeSpec}
use Rattle.modespec.specs.ModeSpec.{spec_of}
use Rattle.modespec.specs.Sizes.{robot, line_samples, window_lines, window_probes, pulse_columns, pulse_offset, working_rate}
use Rattle.pulse.specs.PulseWindow.{best_window}
use Rattle.pulse.specs.Quality.{quality_of}
use Rattle.window_fold.specs.Fold.{lines_at, fold_of}
use Rattle.first_line.specs.Pulsed.{first_pulsed_line}
use Rattle.line_parity.specs.Parity.{odd_line, reads_to}
use Rattle.sync_start.specs.declared.Located.{Located}
use Rattle.sync_start.specs.declared.Evaluation.{Evaluation}

-- ---- the start

-- 4 × first + ((y + column / 700) × L - pulse offset) × 11,025: the sample at which line y starts. The window begins at flag `first`.
unfoldable pub line_start : ModeSpec → ℕ → ℕ → ℕ → Float
line_start spec first column y =
    add binary64 (of_nat (4 * first))
    (mul binary64 (sub binary64 (mul binary64 (lines_at y column) spec.line_seconds) (pulse_offset spec)) working_rate)

-- a picture begins on an even line, so an odd one is left for the line before it
unfoldable pub even_start : Bool → ModeSpec → Float → Float
even_start odd spec start = cond odd (sub binary64 start (line_samples spec)) start

-- two pulses ahead of the line, held at 0 and rounded
unfoldable pub position_of : ModeSpec → Float → ℕ
position_of spec start =
    to_unsigned 64
    (round_away binary64
    (maximum (sub binary64 start (mul binary64 (mul binary64 (of_nat 2) spec.sync_seconds) working_rate)) (fin false 0 (pos 0))))

-- `locate_start`, for the first pulsed line; the count stands beside the start
abbrev pub located_by : Option ℕ → ℕ → ModeSpec → ℕ → ℕ → ℕ → List Float → Option Located
located_by None mode spec first column windows samples = None
located_by (Some y) mode spec first column windows samples =
    let start = line_start spec first column y in
    Some (record { position = position_of spec (even_start (odd_line mode spec samples start) spec start); windows = windows })

-- the start of the picture of these counts: `first_pulsed_line` at the best window, then `locate_start`
abbrev pub column_of : ModeSpec → List ℕ → ℕ
column_of spec counts = (best_window counts (pulse_columns spec 700)).start

-- how many windows of these counts have the largest sum
abbrev pub windows_of : ModeSpec → List ℕ → ℕ
windows_of spec counts = (best_window counts (pulse_columns spec 700)).windows

abbrev pub line_in : ModeSpec → ℕ → List ℕ → List ℕ → Option ℕ
line_in spec first counts flags = first_pulsed_line spec first flags (column_of spec counts) (pulse_columns spec 700)

unfoldable pub locate_in : ℕ → ModeSpec → ℕ → List ℕ → List ℕ → List Float → Option Located
locate_in mode spec first counts flags samples =
    located_by (line_in spec first counts flags) mode spec first (column_of spec counts) (windows_of spec counts) samples

-- ---- the evaluation

-- the counts of the window that begins at flag 64j
abbrev pub counts_of : ℕ → ℕ → List ℕ → List ℕ
counts_of mode j flags = fold_of (spec_of mode) (drop (64 * j) flags)

unfoldable pub locate_of : ℕ → ℕ → List ℕ → List Float → Option Located
locate_of mode j flags samples = locate_in mode (spec_of mode) (64 * j) (counts_of mode j flags) flags samples

-- 0.6 as an `f32`
abbrev pub start_quality : Float
start_quality = round binary32 false 6 10

unfoldable pub window_quality : ℕ → ℕ → List ℕ → Float
window_quality mode j flags = quality_of (counts_of mode j flags) (spec_of mode) (window_lines (spec_of mode))

-- a quality below 0.6 ends the streak
unfoldable pub streak_after : Float → ℕ → ℕ
streak_after quality streak = cond (lt quality start_quality) 0 (streak + 1)

-- the evaluation by all of `flags` and `samples`: those taken and known. The start is looked for where the streak is three at least.
-- Where there is none, the streak stays.
unfoldable pub evaluation_by : ℕ → ℕ → List ℕ → List Float → ℕ → Evaluation
evaluation_by mode j flags samples streak =
    let quality = window_quality mode j flags in
    let next = streak_after quality streak in
    record { quality = quality; streak = next; start = cond (nat_lt next 3) None (locate_of mode j flags samples) }

-- ---- the flags and samples that it is made from

-- 64j + w: the flags taken when evaluation j happens
abbrev pub taken_at : ℕ → ℕ → ℕ
taken_at mode j = 64 * j + window_probes (spec_of mode)

-- samples numbered below 4 × (taken + 1) are known then
abbrev pub known_at : ℕ → ℕ → ℕ
known_at mode j = 4 * (taken_at mode j + 1)

-- evaluation j. Flags that come later read as 0, whatever the list has there, and samples that come later are not known.
unfoldable pub evaluation_of : ℕ → ℕ → List ℕ → List Float → ℕ → Evaluation
evaluation_of mode j flags samples streak = evaluation_by mode j (take (taken_at mode j) flags) (take (known_at mode j) samples) streak

-- ---- the samples that an evaluation reads

abbrev pub reads_by : Option ℕ → ModeSpec → ℕ → List ℕ → ℕ → List ℕ
reads_by None spec first flags column = []
reads_by (Some y) spec first flags column = reads_to spec (4 * (length flags + 1)) (line_start spec first column y) (window_lines spec)

unfoldable pub reads_in : ModeSpec → ℕ → List ℕ → List ℕ → List ℕ
reads_in spec first counts flags = reads_by (line_in spec first counts flags) spec first flags (column_of spec counts)

-- none unless a Robot 24 or 36 is located
unfoldable pub reads_of : ℕ → ℕ → List ℕ → ℕ → List ℕ
reads_of mode j flags streak =
    cond (robot mode)
    (cond (nat_lt (streak_after (window_quality mode j flags) streak) 3) [] (reads_in (spec_of mode) (64 * j) (counts_of mode j flags) flags))
    []

unfoldable pub parity_reads : ℕ → ℕ → List ℕ → ℕ → List ℕ
parity_reads mode j flags streak = reads_of mode j (take (taken_at mode j) flags) streak
