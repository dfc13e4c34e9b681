use Rattle.std.proofs.Common.{rules, arith, ◌≡◌, ◌+◌, ◌*◌, length, ◌∙◌}
use Rattle.std.specs.List.{flat_map}
use Rattle.zerotrie_index.specs.Layout.{word}
use Rattle.zerotrie_index.proofs.WordLemmas.{length-words}
use Rattle.zerotrie_index.proofs.RecordLemmas.{cut_at, not_shorter}
use Rattle.zerotrie_index.proofs.BucketLemmas.{one_more}
use Rattle.zerotrie_index.proofs.reader.parts_of.Goals as goal

pub returns-in_err-table-clause-first : goal.returns-in_err-table-clause-first
returns-in_err-table-clause-first c pairs is =
    let seed = c.in_ok-seed.ensures.first is.seed _ is.seed_below is.bytes_are in
    let count = c.in_ok-count.ensures.first (length is.buckets) _ (let few = is.few_buckets in omega arith) seed.1 in
    let long = length-words is.entries in
    let more = one_more _ _ _ _ is.buckets is.entries is.pool is.are_buckets in
    let same : c.in_ok-count-2.count ≡ c.in_ok-count.count = search rules in
    let len : c.in_ok-len.len ≡ 8 * (c.in_ok-count-2.count + 1) = search rules in
    absurd (not_shorter c.in_ok-len.len c.in_ok-count.rest.now (flat_map word is.entries) is.pool count.1
    (let n = count.0 in let m = len in omega arith) c.in_err-table.ensures.cases)

pub returns-clause-first : goal.returns-clause-first
returns-clause-first c pairs is =
    let seed = c.in_ok-seed.ensures.first is.seed _ is.seed_below is.bytes_are in
    let count = c.in_ok-count.ensures.first (length is.buckets) _ (let few = is.few_buckets in omega arith) seed.1 in
    let long = length-words is.entries in
    let more = one_more _ _ _ _ is.buckets is.entries is.pool is.are_buckets in
    let same : c.in_ok-count-2.count ≡ c.in_ok-count.count = search rules in
    let len : c.in_ok-len.len ≡ 8 * (c.in_ok-count-2.count + 1) = search rules in
    let cut = cut_at c.in_ok-len.len c.in_ok-count.rest.now (flat_map word is.entries) is.pool count.1 (let n = count.0 in let m = len in omega arith) in
    (seed.0, same ∙ count.0, c.in_ok-table.ensures.cases.1 ∙ cut.0, c.in_ok-table.ensures.cases.2 ∙ cut.1)
