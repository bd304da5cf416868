-- The fold of a window of flags (01-scope.md, "Start search"). Definitions only.
pub mod Fold
pub mod Steps
