-- What the contracts of this crate say beyond the rules.
pub mod Table
