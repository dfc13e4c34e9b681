-- Words of the cursors' private functions.
pub mod Edges
pub mod Fronts
