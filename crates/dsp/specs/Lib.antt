-- What the signal functions compute (01-scope.md, "Fused multiply-add and parity", "Spectrum and probe"). Definitions only.
pub mod Goertzel
pub mod Spectrum
