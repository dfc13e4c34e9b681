-- What proofs of the crates above cite of this one.

-- what bytes list is a function of them
pub use Rattle.zerotrie_core.proofs.ListingLemmas.Nodes.{listed_pairs}
-- every key begins with nothing
pub use Rattle.zerotrie_core.proofs.ListingLemmas.Prefixes.{beginning_all}
