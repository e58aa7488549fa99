-- The bytes of a configuration that is said in words.
pub mod Draft
