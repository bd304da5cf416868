-- What the proofs of several functions use, and laws of cards.
mod Parts
mod NoNan
mod Examples
pub mod Calls
pub mod Accepted
pub mod RoundTrip
