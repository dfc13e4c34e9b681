-- What is shown of the nodes of a trie.
pub mod Meanings
pub mod Dumps
pub mod Dots
pub mod Views
