-- What the contracts of a list of calls say beyond the rules.
pub mod Replayed
pub mod View
