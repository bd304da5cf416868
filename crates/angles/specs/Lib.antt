-- The angle tables. Definitions only.
pub mod Angle
pub mod Rules
