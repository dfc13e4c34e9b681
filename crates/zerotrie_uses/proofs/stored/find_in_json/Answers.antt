use Rattle.serde_json.specs.View.{view}
use Rattle.zerotrie.specs.Items.{pairs_of}
use Rattle.zerotrie.specs.Kind.{simple_ascii}
use Rattle.zerotrie.specs.Maps.{map_of}
use Rattle.zerotrie.specs.Routes.{ascending}
use Rattle.zerotrie.proofs.Forms.{read_back}
use Rattle.zerotrie.proofs.Found.{answered_by_map, exactly}
use Rattle.zerotrie_uses.proofs.stored.find_in_json.Goals as goal

pub returns-clause-map : goal.returns-clause-map
returns-clause-map c =
    let m = map_of (pairs_of c.args.pairs.now) in
    let built = c.in_ok-trie.ensures.1 in
    c.get.ensures m (read_back simple_ascii (λ trie. trie.store.items) m (view c.in_ok-value.value) c.in_ok-read.read c.json_keeps_the_pairs.ensures built.fits
    (c.in_ok-value.ensures.json m built.means) c.in_ok-read.ensures)

pub returns-clause-exact : goal.returns-clause-exact
returns-clause-exact c = (exactly (answered_by_map ascending c.in_ok-trie.ensures (returns-clause-map c)) tt).exactly
