-- What the float helpers compute. Definitions only.
pub mod Numbers
pub mod Casts
pub mod Patterns
