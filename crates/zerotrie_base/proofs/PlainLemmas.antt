-- The plain encoder.
pub mod Cuts
pub mod Groups
pub mod Items
pub mod Refusals
