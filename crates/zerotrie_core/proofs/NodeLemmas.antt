-- Nodes, as they are read.
pub mod Read
