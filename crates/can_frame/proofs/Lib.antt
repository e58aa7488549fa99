pub mod Laws
pub mod Mask
pub mod Entries
