-- What follows from a mode's row (01-scope.md, "Modes", "Fold and pulse window", "Slant and rate", "Start search"): lines, flags and columns.
-- The float steps are those of the functions of modespec.rs, sync.rs and sync_start.rs that are named here, in their order. Definitions only.
use Rattle.std.specs.Prelude.{ℕ, ◌+◌, ◌/◌, max, Bool, false, ◌||◌, pos, ◌==◌, Float}
use Rattle.std.specs.Float.{fin, binary64}
use Rattle.std.specs.Float.Ieee.{add, sub, mul, div, neg, of_int, to_unsigned}
use Rattle.ieee.specs.Numbers.{of_nat}
use Rattle.ieee.specs.Casts.{ceil_unsigned, round_away, clamp}
use Rattle.modespec.specs.declared.ModeSpec.{ModeSpec}
use Rattle.modespec.specs.declared.ChannelLayout.{ChannelLayout}
use Rattle.modespec.specs.declared.ChannelLayout.TheVariants.{PdYcbcr, RobotYuv, RgbSequential, Monochrome}
use Rattle.modespec.specs.declared.SyncPosition.{SyncPosition}
use Rattle.modespec.specs.declared.SyncPosition.TheVariants.{LineStart, Scottie}

-- 11,025 Hz, the working rate
abbrev pub working_rate : Float
working_rate = of_nat 11025

-- Robot 24 and 36, whose lines have parity tones
abbrev pub robot : ℕ → Bool
robot mode = mode == 3 || mode == 4

-- `radio_lines`: the lines sent for a picture. PD sends two image rows in one.
abbrev pub radio_lines_by : ChannelLayout → ℕ → ℕ
radio_lines_by PdYcbcr n = n / 2
radio_lines_by RobotYuv n = n
radio_lines_by RgbSequential n = n
radio_lines_by Monochrome n = n

unfoldable pub radio_lines : ModeSpec → ℕ
radio_lines spec = radio_lines_by spec.channel_layout spec.image_lines

-- -(pixels × pixel seconds) / 2 + 2 × porch seconds
unfoldable pub scottie_correction : ModeSpec → Float
unfolding add mul div neg of_int
scottie_correction spec =
    add binary64 (div binary64 (neg (mul binary64 (of_nat spec.line_pixels) spec.pixel_seconds)) (of_nat 2))
    (mul binary64 (of_nat 2) spec.porch_seconds)

-- `skip_correction_seconds`
abbrev pub skip_correction_by : SyncPosition → ModeSpec → Float
skip_correction_by LineStart spec = fin false 0 (pos 0)
skip_correction_by Scottie spec = scottie_correction spec

unfoldable pub skip_correction : ModeSpec → Float
unfolding scottie_correction
skip_correction spec = skip_correction_by spec.sync_position spec

-- `pulse_offset_seconds`: from a line's start to its pulse. In Scottie L / 2 - correction
abbrev pub pulse_offset_by : SyncPosition → ModeSpec → Float
pulse_offset_by LineStart spec = fin false 0 (pos 0)
pulse_offset_by Scottie spec = sub binary64 (div binary64 spec.line_seconds (of_nat 2)) (skip_correction spec)

unfoldable pub pulse_offset : ModeSpec → Float
unfolding sub div of_int skip_correction
pulse_offset spec = pulse_offset_by spec.sync_position spec

-- `window_lines`: ceiling(2 / L), at least 8
unfoldable pub window_lines : ModeSpec → ℕ
unfolding div of_int ceil_unsigned
window_lines spec = max 8 (ceil_unsigned 64 (div binary64 (of_nat 2) spec.line_seconds))

-- `line_samples`: L × 11,025
unfoldable pub line_samples : ModeSpec → Float
unfolding mul of_int
line_samples spec = mul binary64 spec.line_seconds working_rate

-- w, `window_probes`: ceiling(window lines × (L × 11,025) / 4) + 1 flags
unfoldable pub window_probes : ModeSpec → ℕ
unfolding mul div of_int ceil_unsigned window_lines line_samples
window_probes spec = ceil_unsigned 64 (div binary64 (mul binary64 (of_nat (window_lines spec)) (line_samples spec)) (of_nat 4)) + 1

-- P: radio lines × L × rate / 4, rounded up
unfoldable pub image_probes : ModeSpec → Float → ℕ
unfolding mul div of_int ceil_unsigned radio_lines
image_probes spec rate =
    ceil_unsigned 64 (div binary64 (mul binary64 (mul binary64 (of_nat (radio_lines spec)) spec.line_seconds) rate) (of_nat 4))

-- W, the line width: cut(L / S × 4), at least 1
unfoldable pub line_width : ModeSpec → ℕ
unfolding mul div of_int to_unsigned
line_width spec = max 1 (to_unsigned 64 (mul binary64 (div binary64 spec.line_seconds spec.sync_seconds) (of_nat 4)))

-- `sync_pulse_columns`: S / L × n rounded, held between 1 and n (n = 0 gives 1)
unfoldable pub pulse_columns : ModeSpec → ℕ → ℕ
unfolding mul div of_int round_away clamp to_unsigned
pulse_columns spec n =
    to_unsigned 64
    (clamp (round_away binary64 (mul binary64 (div binary64 spec.sync_seconds spec.line_seconds) (of_nat n))) (of_nat 1) (of_nat (max n 1)))
