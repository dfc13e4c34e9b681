-- Words of the array builder.
pub mod Texts
pub mod Growing
