-- Laws of numbers in columns, of a text filled byte by byte, and texts in a row.
pub mod Columns
pub mod Saying
pub mod Joined
