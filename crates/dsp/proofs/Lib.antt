-- Laws of the signal functions.
pub mod Folding
