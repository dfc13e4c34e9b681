-- What a trie is made of.
pub mod Counts
pub mod Reports
pub mod Lines
pub mod Json
pub mod Forms
pub mod count
