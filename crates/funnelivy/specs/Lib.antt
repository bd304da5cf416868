-- What the exported calls answer, as the numbers of the C records. Definitions only.
pub mod Sound
pub mod Report
pub mod Session
pub mod Cards
pub mod Host
