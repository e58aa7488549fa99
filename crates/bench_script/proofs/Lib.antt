-- A law of what a line says.
pub mod Blank
