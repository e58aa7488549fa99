-- What the contracts of this crate say beyond the rules.
pub mod Checks
pub mod Room
pub mod WriteTaken
pub mod Pool
