-- Laws of the parts, which the proofs of their functions and of the session's cite.
pub mod Lists
pub mod Kept
pub mod Starts
