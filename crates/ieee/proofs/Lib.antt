-- What the proofs of several functions use.
pub mod Order
pub mod Compare
pub mod Unsigned
pub mod Magnitudes
pub mod Monotone
pub mod Whole
pub mod Ranges
pub mod Clamping
pub mod Unique
pub mod Closest
pub mod Ceil
pub mod Pack
pub mod NoNan
pub mod View
mod Same
pub mod Shifting
