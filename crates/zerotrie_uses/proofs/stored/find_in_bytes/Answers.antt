use Rattle.std.proofs.Common.{subst, sym}
use Rattle.zerotrie.specs.Kind.{simple_ascii}
use Rattle.zerotrie.specs.Texts.{Means}
use Rattle.zerotrie_uses.proofs.stored.find_in_bytes.Goals as goal

pub returns-clause-value : goal.returns-clause-value
returns-clause-value c =
    let formed = c.in_ok-trie.ensures.ok in
    (formed.0, formed.1, c.get.ensures formed.0 (subst (λ bytes. Means simple_ascii bytes formed.0) (sym c.in_ok-trie.ensures.bytes) formed.1))
