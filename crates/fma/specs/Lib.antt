-- What the fused multiply-add computes. Definitions only.
pub mod Fma
pub mod Near
