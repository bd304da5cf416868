-- The first line of the picture (01-scope.md, "Start search"). Definitions only.
pub mod Pulsed
pub mod Steps
