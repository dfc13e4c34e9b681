-- What the counting goes through.
pub mod Steps
