-- What the folds of flags into columns share (01-scope.md, "Start search", "Slant and rate"). Definitions only.
pub mod Columns
