-- What the contracts of one call on a lent state say beyond the rules.
pub mod Stepped
pub mod Called
