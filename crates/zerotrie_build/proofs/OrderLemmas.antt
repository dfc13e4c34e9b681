-- The order of keys, and the sort.
pub mod Agreeing
pub mod Below
pub mod Numbered
pub mod Parting
pub mod Permuted
pub mod Prefixes
pub mod Sorting
