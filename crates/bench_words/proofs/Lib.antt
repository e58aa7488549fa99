-- Laws that proofs of this crate cite.
pub mod Digits
pub mod Pairs
pub mod Words
