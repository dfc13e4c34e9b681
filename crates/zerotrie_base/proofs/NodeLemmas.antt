-- Nodes of the grammar.
pub mod Fronts
pub mod Heads
pub mod Nodes
pub mod Offsets
pub mod Opened
pub mod Places
pub mod Tables
