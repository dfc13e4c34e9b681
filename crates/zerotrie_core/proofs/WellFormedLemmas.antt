-- The test of bytes.
pub mod Branches
pub mod Depth
pub mod Parts
pub mod Pieces
pub mod Steps
pub mod Targets
