-- How the code's turns and sweeps stand for those of the rules.
pub mod Turns
pub mod Swept
