-- How the structs stand for the places of the rules, and the laws by which a struct of arrays is seen as the list of its places.
pub mod View
pub mod Seen
pub mod Sized
pub mod Arrays
pub mod Zip
pub mod Columns
pub mod Beside
pub mod Names
