-- What the stores, the phases and the refusals of a session's calls are. Definitions only.
pub mod Stores
pub mod Refusals
pub mod Phases
