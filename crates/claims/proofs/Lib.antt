-- What a user of this chip may rely on, and that what the theorems ask for can be met.
pub mod Chip
pub mod Examples
