-- Windows of the items.
pub mod Ends
pub mod Groups
pub mod Leaves
pub mod NodeRuns
pub mod Opened
pub mod Placed
pub mod Spans
pub mod Steps
pub mod Windows
