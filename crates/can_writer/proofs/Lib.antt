-- Laws that the proofs of several functions cite.
pub mod Laws
pub mod Replies
mod BigEndian
