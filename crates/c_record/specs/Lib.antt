-- What a session and the answers of its calls are as the numbers of the C records. Definitions only.
pub mod Phases
pub mod Record
pub mod Session
