-- Laws of the window, the powers and the refusals.
pub mod Testing
pub mod Pairs
pub mod Powers
pub mod Answers
pub mod Examples
