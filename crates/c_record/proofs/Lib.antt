-- Laws of the C records: a record says the session that it was written from.
pub mod RoundTrip
