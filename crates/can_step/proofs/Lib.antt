-- What the proofs of one call on a lent state share.
pub mod Gates
pub mod Steps
