-- The choice of an arrival's object, and what an arrival rests on.
pub mod Choices
pub mod Arrivals
