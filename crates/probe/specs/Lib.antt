-- What the two spectrum calls answer (01-scope.md, "Spectrum and probe"). Definitions only.
pub mod Refusals
pub mod Window
pub mod Decision
