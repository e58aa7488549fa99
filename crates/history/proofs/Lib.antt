-- The proofs of demand 3, of which frames are cancelled, of the poll rule, of demand 1, of what operators ask and of calls on one sheet.
pub mod Judged
pub mod Notices
pub mod Sweeps
pub mod Steps
pub mod Bounded
pub mod Modes
pub mod Objects
pub mod Untouched
pub mod Quiet
pub mod LastFrame
pub mod Cancellation
pub mod PollRule
pub mod Proved
pub mod Demand1
pub mod Operators
pub mod ErrorStates
pub mod Replay
