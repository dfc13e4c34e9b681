-- Words of the private functions of validation.
pub mod Branching
pub mod Testing
