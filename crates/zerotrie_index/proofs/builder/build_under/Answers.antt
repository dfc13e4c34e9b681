use Rattle.std.proofs.Common.{rules, All, IsPermutation, MatchResult, sym, subst}
use Rattle.std.proofs.lemmas.List.Sorted.{All-permutation, IsPermutation-map, IsNonDecreasingBy-from_sort_by_key}
use Rattle.zerotrie_base.specs.Items.{keyed}
use Rattle.zerotrie_index.specs.Layout.{IsIndex}
use Rattle.zerotrie_index.specs.Hashed.{hashed_pairs, IsHashed, Rises}
use Rattle.zerotrie_index.specs.Built.{IsCrowded, CauseWith, IsLaidOut}
use Rattle.zerotrie_index.proofs.WrittenLemmas.{rises_sorted, under}
use Rattle.zerotrie_index.proofs.builder.build_under.Goals as goal

pub write_index-requires-clause-hashes : goal.write_index-requires-clause-hashes
write_index-requires-clause-hashes g c =
    subst (All (IsHashed c.args.seed)) (sym c.as_slice.ensures.value)
    (All-permutation (IsHashed c.args.seed) c.in_ok-hashed.hashed.items c.sort_unstable_by_key.new.self.items c.sort_unstable_by_key.ensures.permutation c.in_ok-hashed.ensures.hashes)

pub write_index-requires-clause-rises : goal.write_index-requires-clause-rises
write_index-requires-clause-rises g c =
    subst Rises (sym c.as_slice.ensures.value)
    (rises_sorted c.sort_unstable_by_key.new.self.items (IsNonDecreasingBy-from_sort_by_key (λ h. h.hash) _ c.sort_unstable_by_key.ensures.sorted (λ a r q k. search rules)))

pub returns : goal.returns
returns g c =
    let given = keyed g.K.TrieKey.key c.args.items.now in
    let sorted = c.sort_unstable_by_key.new.self.items in
    let permuted = subst (λ pairs. IsPermutation pairs (hashed_pairs sorted)) c.in_ok-hashed.ensures.pairs
    (IsPermutation-map (λ h. (h.key.now, h.value)) c.in_ok-hashed.hashed.items sorted c.sort_unstable_by_key.ensures.permutation) in
    under (λ bytes. bytes.items) c.args.seed c.args.count given (hashed_pairs sorted) c.write_index.result permuted
    (subst (λ x. MatchResult c.write_index.result (λ b. IsIndex (hashed_pairs x) b.items × IsLaidOut c.args.seed c.args.count (hashed_pairs x) b.items) (CauseWith (IsCrowded c.args.seed c.args.count (hashed_pairs x)) (hashed_pairs x))) c.as_slice.ensures.value c.write_index.ensures)
