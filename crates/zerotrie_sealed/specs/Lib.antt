pub mod Checksum
pub mod Sealed
pub mod Faults
pub mod Laws
