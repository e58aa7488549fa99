-- Laws of the tests, how many places a state has, that the view forgets nothing, and what the calls share.
pub mod Laws
pub mod Sizes
pub mod Injective
pub mod Gates
pub mod Beside
