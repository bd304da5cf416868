-- Laws of the tones that vote on parity.
pub mod Tones
