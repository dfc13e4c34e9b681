-- The kind and the trie stand in the file.
use Rattle.zerotrie_sealed.proofs.Headers.{one_trie}
use Rattle.zerotrie_sealed.proofs.laws.one_trie.Goals as goal

pub returns : goal.returns
returns c = one_trie
