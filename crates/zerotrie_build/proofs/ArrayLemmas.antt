-- The array builder.
pub mod Adding
pub mod Asides
pub mod Building
pub mod Closing
pub mod Ordering
pub mod Parting
pub mod Runs
pub mod Steps
pub mod Text
