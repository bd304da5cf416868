-- Which number a refused call gets, how a session ends, and the ranges of flags and samples (01-scope.md, "Numbers given by cause"). Definitions only.
pub mod Refusals
pub mod Ending
pub mod Ranges
pub mod Literals
