-- Lists that are filled or taken from, files that are read, and counts. Definitions only.
pub mod Each
pub mod Flags
pub mod Reading
pub mod Taking
pub mod Counts
pub mod Optional
