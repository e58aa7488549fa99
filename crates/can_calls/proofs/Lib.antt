-- Laws of calls by value.
pub mod Arms
pub mod Laws
