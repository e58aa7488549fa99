-- How a line of a script is read: the command that it names, and what its words must be.
pub mod Name
pub mod Count
pub mod Object
pub mod Command
