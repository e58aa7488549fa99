-- The other texts of the plain style, and their numbers.
pub mod Faults
pub mod Troubles
pub mod Notices
pub mod Frames
pub mod States
pub mod Totals
pub mod Lines
pub mod Configs
pub mod Pools
pub mod Reports
pub mod Places
