-- Words of the private functions of `byte_phf`.
pub mod Search
pub mod Held
pub mod Groups
