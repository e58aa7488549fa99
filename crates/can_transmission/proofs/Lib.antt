-- What the proof of Write rests on.
pub mod Writes
