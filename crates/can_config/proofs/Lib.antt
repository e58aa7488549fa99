-- Laws that proofs of this crate cite.
pub mod Laws
mod Codes
mod Judged
pub mod Accepted
pub mod Answered
