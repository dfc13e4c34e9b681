use Rattle.std.proofs.Common.{inl, ap, subst, sym}
use Rattle.zerotrie_core.specs.Kinds.{kind_of}
use Rattle.zerotrie_core.specs.Maps.{beginning}
use Rattle.zerotrie_core.specs.Texts.{Lists}
use Rattle.zerotrie_c.specs.Listed.{IsFlat}
use Rattle.zerotrie_c.proofs.listings.zerotrie_list.Goals as goal

pub returns-in-Ok-flat_of-clause-known : goal.returns-in-Ok-flat_of-clause-known
returns-in-Ok-flat_of-clause-known c =
    rw c.in-Some.ensures.kind (λ pairs lists.
    let kind = kind_of c.in-Some.trie.kind in
    let here = subst (λ b. Lists kind b pairs) (sym c.in-Some.ensures.bytes) lists in
    let f = c.in-Ok-flat_of.listed in
    let flat = subst (λ l. IsFlat l f.keys.items f.ends.items f.values.items) (ap (λ l. l.pairs) (c.in-Ok.ensures.lists pairs here)) c.in-Ok-flat_of.ensures.listed in
    inl (c.give.ensures (beginning kind c.args.prefix.now pairs) flat))
