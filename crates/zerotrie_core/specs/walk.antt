-- The nodes of bytes, each with its place.
pub mod Row
pub mod Visits
pub mod Texts
pub mod Seen
