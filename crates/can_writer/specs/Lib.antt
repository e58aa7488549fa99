-- What the writer lays down, and what it owes.
pub mod Records
pub mod Reply
pub mod State
