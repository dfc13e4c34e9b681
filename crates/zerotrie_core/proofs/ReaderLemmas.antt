-- Look-ups.
pub mod Counts
pub mod Edges
pub mod Lanes
pub mod Literals
pub mod LookUps
pub mod Starts
