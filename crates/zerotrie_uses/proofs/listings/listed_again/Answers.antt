use Rattle.std.proofs.Common.{◌∙◌}
use Rattle.zerotrie.specs.Items.{pairs_of}
use Rattle.zerotrie.specs.Maps.{map_of}
use Rattle.zerotrie.proofs.Forms.{entries-map_of}
use Rattle.zerotrie_uses.proofs.listings.listed_again.Goals as goal

pub returns-in-Ok : goal.returns-in-Ok
returns-in-Ok c =
    let pairs = pairs_of c.args.pairs.now in
    let build = c.in_ok-trie.ensures in
    c.in-Ok.ensures (map_of pairs) build.1.means ∙ entries-map_of pairs build.0
