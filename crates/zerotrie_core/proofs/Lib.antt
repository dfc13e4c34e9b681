pub use Rattle.zerotrie_base.proofs.CallerLemmas
mod Chosen
mod ByteSetLemmas
mod NodeLemmas
mod ReaderLemmas
mod ListingLemmas
mod WalkLemmas
mod CursorLemmas
mod BorderLemmas
mod TrieLemmas
pub mod ListedLemmas
mod WellFormedLemmas
mod FaultLemmas
pub mod ForCallers
