-- A core of which a caller holds some arrays.
pub mod Seen
