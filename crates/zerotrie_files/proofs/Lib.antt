mod BesideLemmas
mod DeedLemmas
mod DiskLemmas
mod LeftLemmas
mod NameLemmas
pub mod WroteLemmas
