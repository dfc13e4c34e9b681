-- A trie as source code.
pub mod Names
pub mod Texts
pub mod Items
pub mod Code
pub mod Laws
