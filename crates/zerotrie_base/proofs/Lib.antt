mod HashLemmas
mod ApartLemmas
mod MarkLemmas
mod TableReads
mod FillLemmas
mod OrderLemmas
mod GroupLemmas
mod BucketLemmas
mod ReciprocalLemmas
mod PlacedLemmas
mod SolveLemmas
mod CacheLemmas
pub mod NumberLemmas
pub mod MapLemmas
pub mod NodeLemmas
pub mod CanonicalLemmas
pub mod PlainLemmas
pub mod CallerLemmas
mod LowerCase
