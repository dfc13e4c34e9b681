-- Words of the look-up's private functions.
pub mod Going
pub mod Descending
pub mod Literals
pub mod Starts
