-- A call and what came of it in plain words.
pub mod Calls
pub mod Answers
pub mod Refusals
pub mod Places
