-- The first pass.
pub mod Inner
pub mod Last
pub mod Measured
pub mod Slots
