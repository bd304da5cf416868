-- Numbers and floats in bytes. Definitions only.
pub mod Words
