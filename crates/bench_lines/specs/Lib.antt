-- Lines of the input.
pub mod Line
