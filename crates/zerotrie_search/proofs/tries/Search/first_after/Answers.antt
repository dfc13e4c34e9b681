use Rattle.std.proofs.Common.{◌∙◌, ap, subst, sym}
use Rattle.zerotrie_core.specs.Texts.{Means}
use Rattle.zerotrie_search.specs.Sorted.{first_of}
use Rattle.zerotrie_search.proofs.tries.Search.first_after.Goals as goal

pub returns : goal.returns
returns g c m means =
    let e = c.in_ok-sorted.ensures in
    let kind = g.Self.Trie.kind c.args.self.now in
    let valid : Means c.in_ok-sorted.sorted.kind c.in_ok-sorted.sorted.bytes m = subst (λ k. Means k c.in_ok-sorted.sorted.bytes m) (sym e.kind) (subst (λ b. Means kind b m) (sym e.bytes) means) in
    c.in_ok-first.ensures (m, valid) ∙ ap (λ l. first_of l.pairs) (e.pairs m means)
