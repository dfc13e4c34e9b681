pub mod Fields
pub mod Methods
