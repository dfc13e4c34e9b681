-- Listings.
pub mod Ascending
pub mod Grouped
pub mod Left
pub mod Nodes
pub mod Passed
pub mod Prefixes
pub mod Rows
pub mod Skipped
