use Rattle.std.proofs.Common.{subst, sym}
use Rattle.serde_json.specs.View.{view}
use Rattle.zerotrie.specs.Flavors.{flavor_kind}
use Rattle.zerotrie.specs.Items.{pairs_of}
use Rattle.zerotrie.specs.Maps.{map_of}
use Rattle.zerotrie.specs.Routes.{ascending}
use Rattle.zerotrie.specs.Texts.{Means}
use Rattle.zerotrie.proofs.Forms.{auto_read_back}
use Rattle.zerotrie.proofs.Found.{answered_by_map, auto_keeps, exactly, get_by_kind}
use Rattle.zerotrie_uses.proofs.stored.find_in_json_of_any.Goals as goal

pub returns-clause-map : goal.returns-clause-map
returns-clause-map c =
    let pairs = pairs_of c.args.pairs.now in
    let build = c.in_ok-trie.ensures.build in
    let json = c.in_ok-value.ensures.json (map_of pairs) (subst (λ kind. Means kind c.in_ok-trie.trie.store.items (map_of pairs)) (sym c.in_ok-trie.ensures.kind) build.1.means) in
    let read =
    auto_read_back (λ trie. flavor_kind trie.flavor) (λ trie. trie.store.items) pairs (view c.in_ok-value.value) c.in_ok-read.read c.json_keeps_the_pairs.ensures
    build.0 build.1.fits json c.in_ok-read.ensures.kind c.in_ok-read.ensures.build in
    get_by_kind c.in_ok-read.read.store.items c.args.word.now c.get.result read.0 c.get.ensures (map_of pairs) read.1

pub returns-clause-exact : goal.returns-clause-exact
returns-clause-exact c = (exactly (answered_by_map ascending c.in_ok-trie.ensures.build (returns-clause-map c)) (auto_keeps (pairs_of c.args.pairs.now))).exactly
