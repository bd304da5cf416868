-- Laws that the proofs of this crate, and of those above it, cite.
pub mod Sizes
pub mod Judging
pub mod Samples
pub mod Positions
pub mod Evaluations
