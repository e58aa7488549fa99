-- What the contracts of this crate say beyond the rules: the checks on the places that are read, and how the code's pick of an object stands
-- for the rules'.
pub mod Checks
pub mod Pick
pub mod Next
