-- Laws of the angle tables.
pub mod Rules
