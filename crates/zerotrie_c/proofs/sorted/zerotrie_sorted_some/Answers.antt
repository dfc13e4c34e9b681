-- The pairs between the bounds are written.
use Rattle.std.proofs.Common.{ap, sym, subst, arith, length, refl, true}
use Rattle.std.proofs.lemmas.Result.{IfOk-weaker}
use Rattle.zerotrie_core.specs.Kinds.{kind_of}
use Rattle.zerotrie_core.specs.Texts.{Means}
use Rattle.zerotrie_c.proofs.PartLemmas.{valid_sorted}
use Rattle.zerotrie_c.proofs.sorted.zerotrie_sorted_some.Goals as goal

pub returns-clause-known : goal.returns-clause-known
returns-clause-known c =
    let page = c.unpack.ensures in
    let all = c.stream_sorted-pairs in
    rw c.in-Some.ensures.kind (rw (sym c.in-Some-bounds_with.ensures) (λ m means.
    let here = subst (λ b. Means (kind_of c.in-Some.trie.kind) b m) (sym c.in-Some.ensures.bytes) means in
    rw (page.status, page.count, page.next_len) (c.fill.ensures.listed _ (valid_sorted _ all.result all.ensures.pairs all.ensures.kind all.ensures.bytes m here))))

pub returns-clause-any : goal.returns-clause-any
returns-clause-any c =
    let page = c.unpack.ensures in
    let some = c.fill.ensures.any (length c.in-Some.trie.bytes.now) (λ key. true) (IfOk-weaker c.stream_sorted-pairs.result _ _ (λ s few. (few, refl)) c.stream_sorted-pairs.ensures.most) in
    let same = ap length c.in-Some.ensures.bytes in
    rw c.in-Some.ensures.kind (rw (sym c.in-Some-bounds_with.ensures) (some.0, omega (arith, some.1, same), rw (page.status, page.count, page.next_len) some.2))
