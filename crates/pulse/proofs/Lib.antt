-- Laws that the proofs of the functions cite.
pub mod Sums
pub mod Sliding
pub mod Largest
pub mod Answers
pub mod Sorting
pub mod Columns
pub mod KnownAnswers
