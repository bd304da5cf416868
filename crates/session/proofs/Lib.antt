-- Laws that the proofs of the session's functions cite, and demand 3.
mod Steps
mod Chunk
mod Loop
mod Feed
mod Rooms
pub mod Once
pub mod Demand3
