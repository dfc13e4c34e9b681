use Rattle.std.proofs.Common.{◌≡◌, rules, sym, subst}
use Rattle.zerotrie_core.specs.Texts.{Means}
use Rattle.zerotrie_hashed.proofs.trie.HashedTriePartialEq.eq.Goals as goal

pub returns-clause-maps : goal.returns-clause-maps
returns-clause-maps g c m n of_self of_other is =
    let stored = g.S.TrieStore.stored in
    let kind = g.K.ZeroTrieWithOptions.kind in
    let same : stored c.args.self.now.store ≡ stored c.args.other.now.store = search rules in
    c.one_meaning.ensures kind (stored c.args.self.now.store) m n of_self (subst (λ bytes. Means kind bytes n) (sym same) of_other)
