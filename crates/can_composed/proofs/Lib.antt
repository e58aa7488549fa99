-- Laws of calls in a row.
pub mod Laws
