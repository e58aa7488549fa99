-- How the code's visits and sweeps stand for those of the rules.
pub mod Visits
pub mod Swept
