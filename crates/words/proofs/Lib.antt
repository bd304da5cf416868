-- What the proofs of several functions use, and laws of numbers as bytes.
mod Patterns
mod Bytes
pub mod Storing
pub mod RoundTrip
pub mod Packing
