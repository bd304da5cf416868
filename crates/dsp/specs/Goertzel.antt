-- The power of one tone in a run of samples (01-scope.md, "Fused multiply-add and parity"): `goertzel_power` of dsp.rs, in its float steps. Definitions only.
use Rattle.std.specs.Prelude.{false, List, [], ◌∷◌, pos, from_bits, Float}
use Rattle.std.specs.Float.{fin, binary64}
use Rattle.std.specs.Float.Ieee.{add, sub, mul, neg}
use Rattle.fma.specs.Fma.{fma}
use Rattle.dsp.specs.declared.Tone.{Tone}
use Rattle.dsp.specs.declared.Tone.TheVariants.{Hz1500, Hz2300}

-- 2.0 * (2.0 * PI * k / 49.0).cos() for k = 7 (1,500 Hz) and k = 10 (2,300 Hz): the bits that the Rust gives on the comparing machine
unfoldable pub coefficient1500 : Float
coefficient1500 = from_bits binary64 0x3ff3_f3a0_e28b_edd2

unfoldable pub coefficient2300 : Float
coefficient2300 = from_bits binary64 0x3fe2_35b3_31d8_f741

abbrev pub coefficient_of : Tone → Float
coefficient_of Hz1500 = coefficient1500
coefficient_of Hz2300 = coefficient2300

-- sample + coefficient * prev - prev2. A sample is an `f32`, and widening leaves its value as it is.
unfoldable pub next_value : Float → Float → Float → Float → Float
next_value coefficient prev prev2 sample = sub binary64 (add binary64 sample (mul binary64 coefficient prev)) prev2

-- prev2 * prev2 + (prev * prev + -coefficient * prev * prev2), where each square is added unrounded
unfoldable pub power_at : Float → Float → Float → Float
power_at coefficient prev prev2 = fma binary64 prev2 prev2 (fma binary64 prev prev (mul binary64 (mul binary64 (neg coefficient) prev) prev2))

-- the power after the samples, from the last two values prev and prev2 on
unfoldable pub power_from : Float → Float → Float → List Float → Float
power_from coefficient prev prev2 [] = power_at coefficient prev prev2
power_from coefficient prev prev2 (sample ∷ samples) = power_from coefficient (next_value coefficient prev prev2 sample) prev samples

unfoldable pub goertzel_power : Float → List Float → Float
goertzel_power coefficient samples = power_from coefficient (fin false 0 (pos 0)) (fin false 0 (pos 0)) samples
