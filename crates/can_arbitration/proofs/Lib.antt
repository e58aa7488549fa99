-- The choice of who sends next.
pub mod Choices
