-- The first line of the picture (01-scope.md, "Start search"): `first_pulsed_line` and `line_is_pulsed` of sync_start.rs. Definitions only.
use Rattle.std.specs.Prelude.{ℕ, zero, suc, ◌+◌, ◌-◌, ◌*◌, min, max, Bool, false, cond, ◌&&◌, List, drop, pos, ◌==◌, is_nan, nat_le, slice_index, Option, Some, None, Float}
use Rattle.std.specs.Float.{fin, binary64}
use Rattle.std.specs.Float.Ieee.{add, sub, mul, div, lt, le, to_unsigned}
use Rattle.ieee.specs.Numbers.{of_nat, decimal}
use Rattle.ieee.specs.Casts.{maximum}
use Rattle.modespec.specs.declared.ModeSpec.{ModeSpec}
use Rattle.modespec.specs.Sizes.{line_samples, window_lines, working_rate}
use Rattle.window_fold.specs.Fold.{lines_at, hit_at}
use Rattle.std.specs.declared.ops.Range.{Range}

-- ---- a narrow pulse

-- `f64::min`: the smaller, and where one is `nan` the other
unfoldable pub minimum : Float → Float → Float
minimum x y = cond (is_nan x) y (cond (lt y x) y x)

-- line samples / 4: the flags of a line
unfoldable pub line_probes : ModeSpec → Float
line_probes spec = div binary64 (line_samples spec) (of_nat 4)

-- S × 11,025 / 4: the flags of a pulse
unfoldable pub pulse_probes : ModeSpec → Float
pulse_probes spec = div binary64 (mul binary64 spec.sync_seconds working_rate) (of_nat 4)

-- where the pulse of line y lies, counted from a flags before the window's first: a + (y + column / 700) × line probes
unfoldable pub pulse_at : Float → ℕ → ℕ → ℕ → Float
pulse_at line a column y = add binary64 (of_nat a) (mul binary64 (lines_at y column) line)

-- the flags looked at around a pulse, from four before it to four behind it. The lower end is held at 0, and both are cut.
unfoldable pub span_of : Float → Float → Range ℕ
span_of pulse start =
    record {
      start = to_unsigned 64 (maximum (sub binary64 start (of_nat 4)) (fin false 0 (pos 0)));
      end = to_unsigned 64 (add binary64 (add binary64 start pulse) (of_nat 4));
    }

-- the run of set flags that ends with the last of the n from lo on
unfoldable pub run_to : List ℕ → ℕ → ℕ → ℕ
run_to flags lo zero = 0
run_to flags lo (suc n) = cond (slice_index flags (lo + n) == 0) 0 (run_to flags lo n + 1)

-- the longest run of set flags among the n from lo on
unfoldable pub longest_to : List ℕ → ℕ → ℕ → ℕ
longest_to flags lo zero = 0
longest_to flags lo (suc n) = max (longest_to flags lo n) (run_to flags lo (suc n))

-- the length that makes a line pulsed: half the pulse, ten flags at most
unfoldable pub run_needed : Float → Float
run_needed pulse = minimum (mul binary64 (decimal 5 1) pulse) (of_nat 10)

-- `line_is_pulsed`: the longest run around line y's pulse is long enough. The flags are those from a before the window's first on.
unfoldable pub pulsed_line : Float → Float → List ℕ → ℕ → ℕ → ℕ → Bool
pulsed_line line pulse flags a column y =
    let span = span_of pulse (pulse_at line a column y) in
    le (run_needed pulse) (of_nat (longest_to flags span.start (span.end - span.start)))

-- the first of the n lines from y on that passes a test
unfoldable pub first_line : (ℕ → Bool) → ℕ → ℕ → Option ℕ
first_line test y zero = None
first_line test y (suc n) = cond (test y) (Some y) (first_line test (suc y) n)

-- the first of `lines` lines y for which y and y + 1 are both pulsed
unfoldable pub first_pair : (ℕ → Bool) → ℕ → Option ℕ
first_pair pulsed lines = first_line (λ y. pulsed y && pulsed (y + 1)) 0 (lines - 1)

-- a is the smaller of 64j and 65, and index i means flag 64j - a + i. `first` is 64j.
unfoldable pub narrow_line : ModeSpec → ℕ → List ℕ → ℕ → Option ℕ
narrow_line spec first flags column =
    let a = min first 65 in
    first_pair (pulsed_line (line_probes spec) (pulse_probes spec) (drop (first - a) flags) a column) (window_lines spec)

-- ---- a wide pulse

-- how many of the n columns from `column` on are set in line y. Columns past 699 run on into the next line.
unfoldable pub hits_across : Float → List ℕ → ℕ → ℕ → ℕ → ℕ
hits_across samples window y column zero = 0
hits_across samples window y column (suc n) = hits_across samples window y column n + hit_at samples window y (column + n)

-- half the pulse's columns at least are set
unfoldable pub half_set : Float → List ℕ → ℕ → ℕ → ℕ → Bool
half_set samples window column width y = nat_le width (2 * hits_across samples window y column width)

-- the first line with half its columns set, else line 0
abbrev pub or_zero : Option ℕ → Option ℕ
or_zero None = Some 0
or_zero (Some y) = Some y

unfoldable pub wide_line : ModeSpec → List ℕ → ℕ → ℕ → Option ℕ
wide_line spec window column width = or_zero (first_line (half_set (line_samples spec) window column width) 0 (window_lines spec))

-- `first_pulsed_line`: a pulse of 20 columns and more is wide. The window begins at flag `first`.
unfoldable pub first_pulsed_line : ModeSpec → ℕ → List ℕ → ℕ → ℕ → Option ℕ
first_pulsed_line spec first flags column width = cond (nat_le 20 width) (wide_line spec (drop first flags) column width) (narrow_line spec first flags column)
