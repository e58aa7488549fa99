-- Laws of the events, for this crate and for those that have the arrivals' frames.
pub mod Laws
pub mod Picks
