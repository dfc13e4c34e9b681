-- Numbers of variable length.
pub mod Numbers
pub mod Few
pub mod Spellings
pub mod Written
