-- A second kind of frame and a small chip for it, made up: no rule of the driver speaks of them. They show that modes, polls, validity
-- and the claims about any list of calls belong to no kind of frame: another kind brings what Ranged has, and a proof of `Lawful`.
pub mod Ranged
