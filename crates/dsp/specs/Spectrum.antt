-- Bins of a spectrum and the window before it (01-scope.md, "Spectrum and probe"): `power`, `get_bin` and `build_hann(16)` of dsp.rs, in their float steps. Definitions only.
use Rattle.std.specs.Prelude.{ℕ, List, [], ◌∷◌, map, from_bits, Float}
use Rattle.std.specs.Float.{binary32, binary64}
use Rattle.std.specs.Float.Ieee.{add, mul, div, to_unsigned}
use Rattle.ieee.specs.Numbers.{of_nat}

-- re * re + im * im, of two `f32` as `f64`
unfoldable pub power_of : Float → Float → Float
power_of re im = add binary64 (mul binary64 re re) (mul binary64 im im)

-- cut(hz * 256 / 11,025): the bin of a frequency in a spectrum of 256 samples. `as` brings it to the range.
unfoldable pub bin_of : Float → ℕ
bin_of hz = to_unsigned 64 (div binary64 (mul binary64 hz (of_nat 256)) (of_nat 11025))

-- `build_hann(16)`: the `f32` bits that the Rust gives on the comparing machine. They are not symmetric.
unfoldable pub hann_bits : List ℕ
hann_bits =
    0x0000_0000 ∷
    0x3d31_0f18 ∷
    0x3e29_67b8 ∷
    0x3eb0_e444 ∷
    0x3f0d_6131 ∷
    0x3f40_0000 ∷
    0x3f67_8ddf ∷
    0x3f7d_33f1 ∷
    0x3f7d_33f0 ∷
    0x3f67_8dde ∷
    0x3f3f_ffff ∷
    0x3f0d_612f ∷
    0x3eb0_e441 ∷
    0x3e29_67b2 ∷
    0x3d31_0f08 ∷
    0x0000_0000 ∷
    []

unfoldable pub hann : List Float
hann = map (from_bits binary32) hann_bits
