-- The second pass.
pub mod Branches
pub mod Fronts
pub mod Layouts
pub mod Listed
pub mod Numbers
pub mod Puts
pub mod Slots
pub mod Targets
pub mod Writing
