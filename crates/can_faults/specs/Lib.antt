-- Which rule of a configuration's bytes is broken first, which bit of a code is stray, and what the answers are held to.
pub mod Fault
pub mod Exactly
pub mod Stray
