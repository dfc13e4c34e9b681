use Rattle.zerotrie_reverse.proofs.FirstLemmas.{firsts_kept}
use Rattle.zerotrie_reverse.proofs.places.sorted_places.Goals as goal

pub returns-clause-table : goal.returns-clause-table
returns-clause-table g c = record {
  ascends = c.in_ok-sort_by_value.ensures.ascends;
  firsts = firsts_kept g.K.ZeroTrieWithOptions.kind c.args.bytes.now c.in-Some.places.items c.sort_by_value.new.places.items
      (rw c.in-Some.is at c.in_ok-places.ensures.pairs) c.in_ok-sort_by_value.ensures.firsts;
}
