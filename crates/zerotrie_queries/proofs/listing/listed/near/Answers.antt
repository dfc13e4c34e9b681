use Rattle.std.proofs.Common.{rules, ◌<◌, ◌^◌, length, suc}
use Rattle.zerotrie_core.specs.Kinds.{kind_of}
use Rattle.zerotrie_index.specs.Tries.{folded_key}
use Rattle.zerotrie_queries.specs.Near.{edits_from}
use Rattle.zerotrie_queries.proofs.NearLemmas.{gives_nearest}
use Rattle.zerotrie_queries.proofs.listing.listed.near.Goals as goal

pub returns : goal.returns
returns g c =
    let trie = c.args.trie.now in
    let s = c.nearest.result in
    let e = c.nearest.ensures in
    let short : length trie.bytes.now < 2 ^ 64 = search rules in
    gives_nearest trie.kind (λ key. edits_from c.args.begins (g.W.Fuzzy.measure c.args.word) (folded_key (kind_of trie.kind) key)) (suc (g.W.Fuzzy.most c.args.word)) trie.bytes.now s.kind s.bytes s.left short e.kind e.bytes e.pairs
