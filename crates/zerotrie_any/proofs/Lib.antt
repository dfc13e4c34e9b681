pub mod MapOrder
pub mod Elements
pub mod AutoLemmas
mod WalkLemmas
pub mod JsonLemmas
pub mod MemberLemmas
pub mod CollectedLemmas
