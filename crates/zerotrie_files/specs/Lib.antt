pub mod Faults
pub mod Notes
pub mod Parts
pub mod Reads
pub mod Disks
pub mod Stores
pub mod Deeds
