-- Laws of the card of a session.
pub mod Slants
pub mod ReadsBack
pub mod TwoCards
