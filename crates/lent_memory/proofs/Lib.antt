-- Lemmas.
mod Summing
