use Rattle.std.proofs.Common.{inr, refl, arith, sym, subst, take, ◌+◌}
use Rattle.std.specs.List.{AllZip}
use Rattle.zerotrie_c.specs.Sets.{IsTrieOf}
use Rattle.zerotrie_c.proofs.SetLemmas.{alike_next, any_at}
use Rattle.zerotrie_c.proofs.sets.tries_of.Goals as goal

pub loop-source-preserved : goal.loop-source-preserved
loop-source-preserved c =
    let l = c.loop-source in
    let xs = c.args.sources.now in
    subst (λ ts. AllZip IsTrieOf (take (l.source-index + 1) xs) ts) (sym c.in_ok-push.ensures.items)
    (alike_next IsTrieOf xs l.source-index _ l.tries.items c.in-Some.trie (omega (arith, c.loop-source-test.true)) l.invariant (c.in-Some.ensures.kind, c.in-Some.ensures.bytes))

pub returns-in_default-clause-err : goal.returns-in_default-clause-err
returns-in_default-clause-err c =
    let l = c.loop-source in
    inr (refl, any_at _ c.args.sources.now l.source-index _ (omega (arith, c.loop-source-test.true)) c.in_default.ensures.kind)
