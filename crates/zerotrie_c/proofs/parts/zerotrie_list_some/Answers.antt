-- What is left of the listing of the trie is written.
use Rattle.std.proofs.Common.{ap, sym, subst, arith, length, refl, true}
use Rattle.std.proofs.lemmas.Result.{IfOk-weaker}
use Rattle.zerotrie_core.specs.Kinds.{kind_of}
use Rattle.zerotrie_core.specs.Texts.{Lists}
use Rattle.zerotrie_c.proofs.parts.zerotrie_list_some.Goals as goal

pub returns-clause-known : goal.returns-clause-known
returns-clause-known c =
    let page = c.unpack.ensures in
    rw c.in-Some.ensures.kind (λ pairs lists.
    let here = subst (λ b. Lists (kind_of c.in-Some.trie.kind) b pairs) (sym c.in-Some.ensures.bytes) lists in
    rw (page.status, page.count, page.next_len)
    (c.fill.ensures.listed _ (IfOk-weaker c.left_of-pairs.result _ _ (λ s is. (tt, ap (λ l. l.pairs) (is pairs here))) c.left_of-pairs.ensures.lists)))

pub returns-clause-any : goal.returns-clause-any
returns-clause-any c =
    let page = c.unpack.ensures in
    let some = c.fill.ensures.any (length c.in-Some.trie.bytes.now) (λ key. true) (IfOk-weaker c.left_of-pairs.result _ _ (λ s few. (few, refl)) c.left_of-pairs.ensures.most) in
    let same = ap length c.in-Some.ensures.bytes in
    rw c.in-Some.ensures.kind (some.0, omega (arith, some.1, same), rw (page.status, page.count, page.next_len) some.2)
