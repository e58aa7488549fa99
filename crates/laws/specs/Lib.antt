-- What the laws are about, beyond the rules themselves.
pub mod WriteRule
pub mod NextRule
pub mod WriterRule
