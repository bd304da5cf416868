-- Laws of what a session can report.
pub mod QualityRange
pub mod Rates
pub mod SkipRange
pub mod Report
pub mod Sound
