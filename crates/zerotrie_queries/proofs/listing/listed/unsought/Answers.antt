use Rattle.std.proofs.Common.{rules, ◌<◌, ◌^◌, length}
use Rattle.zerotrie_queries.specs.Kept.{keeps}
use Rattle.zerotrie_queries.proofs.GivenLemmas.{gives_kept_alone}
use Rattle.zerotrie_queries.proofs.listing.listed.unsought.Goals as goal

pub returns : goal.returns
returns c =
    let trie = c.args.trie.now in
    let short : length trie.bytes.now < 2 ^ 64 = search rules in
    let s = c.in_ok-pairs.pairs in
    let e = c.in_ok-pairs.ensures in
    gives_kept_alone trie.kind c.args.choice (keeps c.conditions-kept.result) c.requires.none c.conditions-kept.ensures c.args.part c.requires.within trie.bytes.now s.sorted.kind s.sorted.bytes s.left short e.kind e.bytes e.pairs
