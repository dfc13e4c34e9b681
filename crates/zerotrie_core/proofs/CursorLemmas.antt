-- Cursors, and what is found by them.
pub mod Between
pub mod Calls
pub mod CommonPrefixes
pub mod Laws
pub mod Longest
pub mod Parts
pub mod Runs
