-- Words of the sort and of the two passes.
pub mod Windows
pub mod Measured
pub mod Writing
pub mod Written
pub mod Writes
pub mod Walking
pub mod Sorts
pub mod OtherCase
pub mod Blocks
