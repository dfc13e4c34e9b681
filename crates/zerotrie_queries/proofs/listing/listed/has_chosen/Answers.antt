use Rattle.zerotrie_queries.specs.Pairs.{AreChosenValid, left_of_chosen}
use Rattle.zerotrie_queries.proofs.GivenLemmas.{has_any}
use Rattle.zerotrie_queries.proofs.listing.listed.has_chosen.Goals as goal

pub returns : goal.returns
returns c =
    let trie = c.args.trie.now in
    has_any AreChosenValid left_of_chosen trie.kind c.args.choice trie.bytes.now c.in_ok-pairs.pairs c.has_pair.result c.in_ok-pairs.ensures c.has_pair.ensures
