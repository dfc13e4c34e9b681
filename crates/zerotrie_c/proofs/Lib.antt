pub mod Moved
pub mod Steps
pub mod Written
mod FrontLemmas
mod EntryLemmas
mod DenseLemmas
pub mod PartLemmas
mod FlatLemmas
mod FrontsLemmas
mod BoundLemmas
mod FileLemmas
mod SetLemmas
mod ChangeLemmas
mod FoldLemmas
mod NearestLemmas
