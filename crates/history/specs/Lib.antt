-- Demand 3, to be read in this order; which records close an object; frames that had left; demand 2's poll rule; demand 1; what operators
-- ask of the polls, and of error states; and calls on one sheet.
pub mod Call
pub mod Trace
pub mod Effect
pub mod Account
pub mod Reference
pub mod Claim
pub mod Notices
pub mod LastFrame
pub mod Cancellation
pub mod PollRule
pub mod Demand1
pub mod Operators
pub mod ErrorStates
pub mod Replay
