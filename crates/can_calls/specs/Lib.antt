-- What a request asks of the driver, and its answers in the rules' words.
pub mod Answer
pub mod Request
pub mod Came
