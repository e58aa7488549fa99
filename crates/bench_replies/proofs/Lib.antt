-- Each text is found in its table.
pub mod Tables
