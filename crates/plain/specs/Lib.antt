-- The plain session of demand 3. Definitions only.
pub mod Plain
pub mod Point
pub mod Calls
pub mod Lists
