use Rattle.std.proofs.Common.{◌∙◌, ap, inl, inr, arith, sym, subst, take, ◌+◌}
use Rattle.std.specs.List.{AllZip}
use Rattle.zerotrie_sets.specs.Rows.{EachAscends}
use Rattle.zerotrie_c.specs.Sets.{AreOfTrie}
use Rattle.zerotrie_c.proofs.SetLemmas.{alike_next, any_at, ascend_more, lefts, lefts_more}
use Rattle.zerotrie_c.proofs.sets.streams_of.Goals as goal

pub loop-trie-preserved : goal.loop-trie-preserved
loop-trie-preserved c =
    let l = c.loop-trie in
    let xs = c.args.tries.now in
    let s = c.in-Ok.stream in
    let more = ap lefts c.in_ok-push-in-Ok.ensures.items ∙ lefts_more l.streams.items s in
    record {
      lists = subst (λ ps. AllZip AreOfTrie (take (l.trie-index + 1) xs) ps) (sym more)
          (alike_next AreOfTrie xs l.trie-index _ (lefts l.streams.items) s.left.pairs (omega (arith, c.loop-trie-test.true)) l.invariant.lists c.in-Ok.ensures.pairs);
      ascend = subst EachAscends (sym more) (ascend_more (lefts l.streams.items) s.left.pairs l.invariant.ascend c.in-Ok.ensures.ascend);
    }

pub returns-in-Err-clause-err : goal.returns-in-Err-clause-err
returns-in-Err-clause-err c = elim c.in-Err.ensures.err [
  | inl none ↦ inl none
  | inr bad ↦ inr (bad.0, any_at _ c.args.tries.now c.loop-trie.trie-index _ (omega (arith, c.loop-trie-test.true)) bad.1)
]
