-- Laws of tests over all places, how the tests of the arrays make up the test of all places, the pools, and the whole test of a core.
pub mod Laws
mod Parts
pub mod LowestTable
pub mod OwnPools
pub mod Whole
