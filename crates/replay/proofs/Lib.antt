-- Lemmas.
mod Counting
mod Filling
mod Naming
mod Runs
mod Wrapping
