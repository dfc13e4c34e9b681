use Rattle.std.proofs.Common.{◌∙◌, ap, arith, sym, subst, take, ◌+◌, length, ◌<◌}
use Rattle.std.specs.List.{AllZip}
use Rattle.zerotrie_sets.specs.Rows.{EachAscends}
use Rattle.zerotrie_making.proofs.CombineLemmas.{zip_next, ascend_more, left_ascends, lefts, lefts_more, Listed, listed_meant, take_end}
use Rattle.zerotrie_making.proofs.combine.streams_of.Goals as goal

pub loop-trie-preserved : goal.loop-trie-preserved
loop-trie-preserved c =
    let l = c.loop-trie in
    let xs = c.args.tries.now in
    let inside : l.trie-index < length xs = omega (arith, c.loop-trie-test.true) in
    let s = c.in_ok-sorted_pairs.field-0 in
    let more = ap lefts c.in_ok-push.ensures.items ∙ lefts_more l.streams.items s in
    record {
      lists = subst (λ ps. AllZip Listed (take (l.trie-index + 1) xs) ps) (sym more)
          (zip_next Listed xs l.trie-index _ (lefts l.streams.items) s.left.pairs inside l.invariant.lists (λ m means. ap (λ left. left.pairs) (c.in_ok-sorted_pairs.ensures m means).0));
      ascend = subst EachAscends (sym more) (ascend_more (lefts l.streams.items) s.left.pairs l.invariant.ascend (left_ascends _ _ s.left (c.requires l.trie-index _ inside) c.in_ok-sorted_pairs.ensures));
    }

pub returns-clause-lists : goal.returns-clause-lists
returns-clause-lists c =
    let l = c.loop-trie in
    let xs = c.args.tries.now in
    let lists = lefts l.streams.items in
    let all = take_end xs l.trie-index (omega (arith, c.loop-trie-test.false)) in
    listed_meant xs lists (subst (λ tries. AllZip Listed tries lists) all l.invariant.lists)
