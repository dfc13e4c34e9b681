pub mod Descent
pub mod Steps
pub mod Tables
