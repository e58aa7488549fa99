-- What a poll is handed of the state.
pub mod Rooms
