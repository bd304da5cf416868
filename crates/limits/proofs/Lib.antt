-- Laws of ranges, refusals and signed numbers.
pub mod AtMost
pub mod Samples
pub mod Causes
pub mod Signed
