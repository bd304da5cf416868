-- Parity of the first line (01-scope.md, "Start search", "Fused multiply-add and parity"). Definitions only.
pub mod Parity
