-- What the proofs of Init and DeInit share, and the controllers that Init stops.
pub mod Stopped
pub mod Laws
