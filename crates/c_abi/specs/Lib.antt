-- What C is told beyond the rules.
pub mod Number
