-- Words of the dense table.
pub mod Rows
pub mod Windows
pub mod Layout
pub mod Records
pub mod Tables
pub mod Laws
pub mod Views
pub mod Reading
pub mod RowFaults
