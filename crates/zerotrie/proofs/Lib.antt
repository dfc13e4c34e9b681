pub mod Builds
pub mod Constants
pub mod Cursors
pub mod Fallbacks
pub mod Listings
pub mod Forms
pub mod Found
pub mod Lookups
pub mod Tables
mod WindowLaws
mod RecordLemmas
mod StepLemmas
mod CellLemmas
mod LookLemmas
mod TextLemmas
mod PlaceLemmas
mod RowLemmas
mod EntryLemmas
mod FullestLemmas
mod BuildLemmas
mod RefusalLemmas
mod OnceLemmas
mod CauseLemmas
mod RowsLemmas
mod MadeLemmas
