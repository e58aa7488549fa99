-- What the proofs of a list of calls share.
pub mod Plays
