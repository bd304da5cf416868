-- What the answers of single calls are as the numbers of the C records. Definitions only.
pub mod Counts
pub mod Sound
pub mod Report
