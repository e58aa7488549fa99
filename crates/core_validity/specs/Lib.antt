-- What the tests of a core are made of.
pub mod Tests
pub mod Pools
