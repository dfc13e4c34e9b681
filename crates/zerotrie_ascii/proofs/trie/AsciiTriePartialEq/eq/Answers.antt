use Rattle.std.proofs.Common.{◌≡◌, ◌↔◌, rules}
use Rattle.zerotrie_ascii.proofs.trie.AsciiTriePartialEq.eq.Goals as goal

pub returns-clause-maps : goal.returns-clause-maps
returns-clause-maps g c m n of_self of_other =
    let stored = g.S.TrieStore.stored in
    let law : (stored c.args.self.now.store ≡ stored c.args.other.now.store) ↔ (m ≡ n) =
    c.equal_exactly_if_maps_are.ensures g.K.ZeroTrieWithOptions.kind g.met.K.AsciiKind.ascii (stored c.args.self.now.store) (stored c.args.other.now.store) m n of_self of_other in
    search (rules, law)
