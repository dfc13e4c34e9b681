-- Pairs and maps, without the bytes.
pub mod Alike
pub mod Cases
pub mod Collected
pub mod Edges
pub mod Kinds
pub mod Listed
pub mod Maps
pub mod Ordered
pub mod Spans
pub mod Targets
pub mod Values
