-- What holds of the second kind of frame.
pub mod Lawful
pub mod Sayable
pub mod Claims
pub mod Example
