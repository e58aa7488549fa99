-- How what is read of a configuration stands for the configuration of the rules, and what the reader promises.
pub mod View
pub mod Seen
pub mod Accepted
pub mod Reading
