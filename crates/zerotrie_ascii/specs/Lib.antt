pub mod Writing
pub mod ListedTexts
