-- Laws of the search for a first line, of runs of set flags, and of the columns of a wide pulse.
pub mod Lines
pub mod Runs
pub mod Firsts
pub mod Across
