-- How a sweep over the controllers goes on, and what a poll leaves.
pub mod Turns
pub mod Polled
pub mod Passes
