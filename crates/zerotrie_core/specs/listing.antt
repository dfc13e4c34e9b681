-- words for private functions of the listing
pub mod Listed
pub mod Grouped
pub mod Opened
pub mod Runs
pub mod Passed
