-- The answers of the calls in the paper's numbers, and what a call owes.
pub mod Answer
pub mod Reply
pub mod Performed
