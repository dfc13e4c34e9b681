-- The search for a fault.
pub mod Rules
pub mod Rows
pub mod Search
