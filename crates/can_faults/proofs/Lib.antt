-- Laws that proofs of this crate cite, and the theorems.
pub mod Laws
mod Seen
pub mod Exactly
pub mod Bits
mod Whole
