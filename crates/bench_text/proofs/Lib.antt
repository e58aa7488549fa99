-- Laws of text written into a buffer, and what is read back from it.
pub mod Writing
pub mod RoundTrip
