-- Texts with holes for numbers.
pub mod Form
pub mod Say
