-- Laws that proofs of other crates cite.
pub mod Placed
