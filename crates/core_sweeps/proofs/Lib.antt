-- How a sweep over the objects goes on.
pub mod Visits
