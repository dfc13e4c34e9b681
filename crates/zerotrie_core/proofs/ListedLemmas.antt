-- What proofs of the crates above cite of listings: their pairs are the map's, each once, in the order of the keys.
pub use Rattle.zerotrie_core.proofs.ListingLemmas.Ascending.{list_the_map, ascend_by_bytes}
