-- The call that each command of a script asks for.
pub mod Request
