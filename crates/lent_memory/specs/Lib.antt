-- Lent memory, sums over it, and the pieces that are fed. Definitions only.
pub mod Lent
pub mod Pieces
pub mod Sums
