-- Laws of the C card: a record and the card that it says are one another's.
pub mod RoundTrip
