use Rattle.zerotrie.specs.Items.{pairs_of}
use Rattle.zerotrie.proofs.Listings.{lists_pairs}
use Rattle.zerotrie_uses.proofs.listings.walk_over.Goals as goal

pub returns : goal.returns
returns c =
    let pairs = pairs_of c.args.pairs.now in
    let build = c.in_ok-trie.ensures in
    c.in_ok-walk.ensures pairs (lists_pairs build.0 build.1)
