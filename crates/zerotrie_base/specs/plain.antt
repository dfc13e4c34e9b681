-- Words for the private functions of the plain encoder.
pub mod Encoding
