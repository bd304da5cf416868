-- Laws of the C interface: the card there and back; demand 3 and the card, for a host's list of calls.
pub mod RoundTrip
pub mod Host
