-- How the driver state stands for that of the rules, and the parts of its test.
pub mod View
pub mod Given
pub mod Seen
pub mod Columns
pub mod Sizes
pub mod Tests
pub mod Beside
