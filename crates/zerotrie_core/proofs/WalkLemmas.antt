-- Walks over the nodes.
pub mod Places
pub mod Texts
pub mod Visits
