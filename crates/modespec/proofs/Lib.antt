-- Laws of the rows and of the sizes, and the known answers.
pub mod Modes
pub mod Rows
pub mod PulseColumns
pub mod KnownAnswers
