pub mod Items
pub mod Ranges
pub mod Zeros
pub mod Order
pub mod Clean
pub mod Refused
pub mod passes
pub mod array
