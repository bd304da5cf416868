-- The card of a session. Definitions only.
pub mod Entry
pub mod Ledger
pub mod Back
pub mod Literals
