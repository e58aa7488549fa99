-- How a line is split into words, and what a word says; and texts in a row.
pub mod Text
pub mod Split
pub mod Reading
pub mod Piece
