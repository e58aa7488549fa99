-- Laws that the proofs of the services cite, here and in the crates that have the services' frames.
pub mod Laws
