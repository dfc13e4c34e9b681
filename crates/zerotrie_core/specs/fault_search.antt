-- Words of the private functions of the search for a fault.
pub mod Rules
