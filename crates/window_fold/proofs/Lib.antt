-- Laws of a fold, and of a window without a set flag.
pub mod Folding
pub mod Silence
