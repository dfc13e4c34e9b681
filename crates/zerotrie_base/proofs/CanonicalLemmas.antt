-- Canonical texts, their meaning and their length.
pub mod Bounds
pub mod Canonical
pub mod Encoded
pub mod Fitting
pub mod Lengths
pub mod Meaning
pub mod Order
pub mod Sizes
pub mod Stacks
pub mod Suited
pub mod Texts
pub mod Vectors
