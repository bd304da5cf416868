-- Parity of the first line (01-scope.md, "Start search", "Fused multiply-add and parity"): `first_line_is_odd` of sync_start.rs. Definitions only.
use Rattle.std.specs.Prelude.{ℕ, zero, suc, ◌+◌, ◌%◌, ◌^◌, Bool, cond, false, ◌&&◌, List, [], ◌++◌, length, take, drop, eqb, leb, pos, Float}
use Rattle.std.specs.Float.{fin, binary64}
use Rattle.std.specs.Float.Ieee.{round, add, sub, mul, div, neg, lt, le, to_unsigned}
use Rattle.ieee.specs.Numbers.{of_nat}
use Rattle.ieee.specs.Casts.{round_away}
use Rattle.modespec.specs.declared.ModeSpec.{ModeSpec}
use Rattle.modespec.specs.Sizes.{robot, window_lines, working_rate}
use Rattle.dsp.specs.Goertzel.{goertzel_power, coefficient1500, coefficient2300}
use Rattle.columns.specs.Columns.{list_to}

-- S + porch + 2 × pixels × pixel seconds: from a line's start to its separator
unfoldable pub separator_of : ModeSpec → Float
separator_of spec =
    add binary64 (add binary64 spec.sync_seconds spec.porch_seconds)
    (mul binary64 (mul binary64 (of_nat 2) (of_nat spec.line_pixels)) spec.pixel_seconds)

-- round(line start + (k × L + separator) × 11,025): where line k's tone begins
unfoldable pub tone_at : ModeSpec → Float → ℕ → Float
tone_at spec start k =
    round_away binary64
    (add binary64 start (mul binary64 (add binary64 (mul binary64 (of_nat k) spec.line_seconds) (separator_of spec)) working_rate))

-- the tone's 49 samples are among the n that are known
unfoldable pub tone_known : ℕ → Float → Bool
tone_known n from = le (fin false 0 (pos 0)) from && leb (to_unsigned 64 from + 49) n

-- the tone's samples
unfoldable pub tone_of : List Float → Float → List Float
tone_of samples from = take 49 (drop (to_unsigned 64 from) samples)

-- `f64::EPSILON`, 2 ^ -52
unfoldable pub epsilon : Float
epsilon = round binary64 false 1 (2 ^ 52)

-- (odd - even) / (odd + even + EPSILON), of the powers at 2,300 and 1,500 Hz
unfoldable pub lean_of : List Float → Float
lean_of tone =
    let even = goertzel_power coefficient1500 tone in
    let odd = goertzel_power coefficient2300 tone in
    div binary64 (sub binary64 odd even) (add binary64 (add binary64 odd even) epsilon)

-- the vote with the lean of line k: a line of odd k counts the other way
unfoldable pub voted_with : Float → ℕ → Float → Float
voted_with vote k lean = add binary64 vote (cond (eqb (k % 2) 0) lean (neg lean))

-- the vote with line k's tone. A tone that is not wholly known is passed over.
unfoldable pub vote_on : ModeSpec → List Float → Float → ℕ → Float → Float
vote_on spec samples start k vote =
    let from = tone_at spec start k in
    cond (tone_known (length samples) from) (voted_with vote k (lean_of (tone_of samples from))) vote

-- the vote of the first n lines
unfoldable pub vote_to : ModeSpec → List Float → Float → ℕ → Float
vote_to spec samples start zero = fin false 0 (pos 0)
vote_to spec samples start (suc k) = vote_on spec samples start k (vote_to spec samples start k)

-- `first_line_is_odd`, of a line that starts at sample `start`
unfoldable pub odd_line : ℕ → ModeSpec → List Float → Float → Bool
odd_line mode spec samples start = robot mode && lt (fin false 0 (pos 0)) (vote_to spec samples start (window_lines spec))

-- the numbers of the samples that `odd_line` reads, of `known` samples, for the first n lines
unfoldable pub reads_to : ModeSpec → ℕ → Float → ℕ → List ℕ
reads_to spec known start zero = []
reads_to spec known start (suc k) =
    reads_to spec known start k
    ++ cond (tone_known known (tone_at spec start k)) (list_to (λ i. to_unsigned 64 (tone_at spec start k) + i) 49) []
