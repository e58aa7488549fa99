pub mod ObjectBytes
pub mod Lawful
pub mod Placed
