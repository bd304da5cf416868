-- The modes and what follows from them (01-scope.md, "Modes"). Definitions only.
pub mod Mode
pub mod ModeSpec
pub mod Sizes
pub mod Calls
pub mod Literals
