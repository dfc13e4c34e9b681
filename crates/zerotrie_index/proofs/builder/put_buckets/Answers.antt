use Rattle.std.proofs.Common.{rules, arith, ◌≡◌, ◌⊎◌, ℕ, ◌+◌, ◌-◌, ◌^◌, ◌<◌, ◌≤◌, [], List, ◌++◌, length, length-append, take, drop, All, ap, sym, subst, ◌∙◌}
use Rattle.std.proofs.lemmas.Result.{err_from_is_err_and}
use Rattle.std.proofs.lemmas.List.{drop-drop, length-drop, take_all}
use Rattle.std.proofs.lemmas.List.Elements.{All-take, All-drop}
use Rattle.zerotrie_index.specs.Layout.{word, place_of, mark_of, bucket_limit, AreRecords}
use Rattle.zerotrie_base.specs.Maps.{RepeatsKey}
use Rattle.zerotrie_index.specs.declared.error.ZeroIndexBuildError.TheVariants.{DuplicateKey, Crowded}
use Rattle.zerotrie_index.specs.Hashed.{hashed_pairs, IsHashed, Rises}
use Rattle.zerotrie_index.specs.Built.{records_size, IsTooLong, IsCrowded, AreWritten}
use Rattle.zerotrie_index.proofs.WrittenLemmas.{Filled, filled_none, filled_more, filled_all, rises_drop, pairs_more, pairs_size, size_within, all_at, none_left, bucket_cause, long_cause, length-pairs, length-records}
use Rattle.zerotrie_index.proofs.builder.put_buckets.Goals as goal

pub loop-number-init : goal.loop-number-init
loop-number-init g c = record {
  within = omega arith;
  filled = λ seed hashes. subst (Filled seed c.args.count 0 [] c.args.table.now.items c.args.table.now.items) (sym c.requires.fresh) (filled_none seed c.args.count c.args.table.now.items);
  small = let none = ap length c.requires.fresh in omega arith;
  size = ap length c.requires.fresh;
  later = λ k d inside. omega arith;
}

pub returns-in_err-test_bucket-clause-err : goal.returns-in_err-test_bucket-clause-err
returns-in_err-test_bucket-clause-err g c =
    let p = err_from_is_err_and c.from_residual.result c.from_residual.ensures.1 in
    let at = c.loop-number.at in
    let len = c.bucket_len-len.result in
    let hashed = c.args.hashed.now in
    let long = length-drop at hashed in
    let rest : take (length hashed - at) (drop at hashed) ≡ drop at hashed = take_all (length hashed - at) (drop at hashed) (omega arith) in
    let here = subst (λ x. All (λ h. place_of c.args.count h.hash ≡ c.loop-number.number) (take len x)) rest c.bucket_len-len.ensures.here in
    rw (p.1, p.2) (λ seed hashes. bucket_cause seed c.args.count c.loop-number.number at len hashed c.in_err-test_bucket.field-0.0 hashes here
    (subst (λ x. ((c.in_err-test_bucket.field-0.0 ≡ DuplicateKey) × RepeatsKey (hashed_pairs (take len x)))
    ⊎ ((c.in_err-test_bucket.field-0.0 ≡ Crowded) × (bucket_limit < length (take len x)))) rest c.in_err-test_bucket.ensures.err))

pub returns-in_err-put_records-clause-err : goal.returns-in_err-put_records-clause-err
returns-in_err-put_records-clause-err g c =
    let p = err_from_is_err_and c.from_residual-in_err-put_records.result c.from_residual-in_err-put_records.ensures.1 in
    let at = c.loop-number.at in
    let len = c.bucket_len-len.result in
    let hashed = c.args.hashed.now in
    let rest : take (length hashed - at) (drop at hashed) ≡ drop at hashed = take_all (length hashed - at) (drop at hashed) (let long = length-drop at hashed in omega arith) in
    let sum = pairs_size hashed at len in
    let within = size_within hashed (at + len) in
    let size = c.loop-number.invariant.size in
    rw (p.1, p.2) (λ seed hashes. long_cause (IsCrowded seed c.args.count (hashed_pairs hashed)) (hashed_pairs hashed) (length c.loop-number.pool.items + records_size (hashed_pairs (take len (drop at hashed)))) c.in_err-put_records.field-0.0 (omega arith)
    (subst (λ x. IsTooLong (length c.loop-number.pool.items + records_size (hashed_pairs (take len x))) c.in_err-put_records.field-0.0) rest c.in_err-put_records.ensures.err))

pub loop-number-preserved : goal.loop-number-preserved
loop-number-preserved g c =
    let at = c.loop-number.at in
    let number = c.loop-number.number in
    let count = c.args.count in
    let len = c.bucket_len-len.result in
    let hashed = c.args.hashed.now in
    let bucket = take len (drop at hashed) in
    let inv = c.loop-number.invariant in
    let entry = c.entry_of.result in
    let long = length-drop at hashed in
    let rest : take (length hashed - at) (drop at hashed) ≡ drop at hashed = take_all (length hashed - at) (drop at hashed) (omega arith) in
    let told = subst (λ x. (len ≤ length x) × All (λ h. place_of count h.hash ≡ number) (take len x)
    × (Rises x → All (λ h. number ≤ place_of count h.hash) x → All (λ h. number < place_of count h.hash) (drop len x))) rest
    (c.bucket_len-len.ensures.within, c.bucket_len-len.ensures.here, c.bucket_len-len.ensures.later) in
    let put = subst (λ x. (records : List ℕ) × (c.put_records.new.pool.items ≡ c.loop-number.pool.items ++ records) × AreRecords (hashed_pairs (take len x)) records × (length c.put_records.new.pool.items < 2 ^ 32))
    rest c.in_ok-put_records.ensures.ok in
    let marks = subst (λ x. All (λ h. mark_of entry h.hash ≡ 1) (take len x)) rest c.entry_of.ensures.marks in
    let tested = subst (λ x. (length (take len x) ≤ bucket_limit) × (RepeatsKey (hashed_pairs (take len x)) → ⊥)) rest
    (c.in_ok-test_bucket.ensures.short, c.in_ok-test_bucket.ensures.distinct) in
    let sum = pairs_size hashed at len in
    record {
      within = let l = told.0 in let w = inv.within in omega arith;
      filled = λ seed hashes.
          let more = filled_more seed count number (hashed_pairs (take at hashed)) c.args.table.now.items c.loop-number.table.items c.loop-number.pool.items (inv.filled seed hashes)
          (hashed_pairs bucket) put.0 entry (omega (arith, c.entry_of.type_inv)) put.2 (c.entry_of.ensures.start ∙ search rules)
          (all_at seed count number entry bucket (All-take (IsHashed seed) len (drop at hashed) (All-drop (IsHashed seed) at hashed hashes)) told.1 marks)
          (subst (λ n. n ≤ bucket_limit) (sym (length-pairs bucket)) tested.0) tested.1 in
          subst (λ p. Filled seed count (number + 1) (hashed_pairs (take (at + len) hashed)) c.args.table.now.items c.put_word.new.bytes.items p) (sym put.1)
          (subst (λ t. Filled seed count (number + 1) (hashed_pairs (take (at + len) hashed)) c.args.table.now.items t (c.loop-number.pool.items ++ put.0)) (sym c.in_ok-put_word.ensures)
          (subst (λ p. Filled seed count (number + 1) p c.args.table.now.items (c.loop-number.table.items ++ word entry) (c.loop-number.pool.items ++ put.0)) (sym (pairs_more hashed at len)) more));
      small = put.3;
      size = let grown = ap length put.1 ∙ length-append c.loop-number.pool.items put.0 in let own = length-records (hashed_pairs bucket) put.0 put.2 in let size = inv.size in omega arith;
      later = λ k d inside.
          let above = subst (λ x. All (λ h. number < place_of count h.hash) x) (drop-drop len at hashed) (told.2 (rises_drop at hashed c.requires.rises) inv.later) k d inside in
          omega arith;
    }

pub returns-clause-ok : goal.returns-clause-ok
returns-clause-ok g c = λ seed hashes some.
    let at = c.loop-number.at in
    let count = c.args.count in
    let hashed = c.args.hashed.now in
    let inv = c.loop-number.invariant in
    let last : c.loop-number.number ≡ count = omega (arith, c.loop-number-test.false) in
    let all = none_left seed count at hashed some hashes (subst (λ n. All (λ h. n ≤ place_of count h.hash) (drop at hashed)) last inv.later) in
    let filled = subst (λ n. Filled seed count n (hashed_pairs hashed) c.args.table.now.items c.loop-number.table.items c.loop-number.pool.items) last
    (subst (λ x. Filled seed count c.loop-number.number (hashed_pairs x) c.args.table.now.items c.loop-number.table.items c.loop-number.pool.items) all (inv.filled seed hashes)) in
    subst (λ t. AreWritten seed count (hashed_pairs hashed) c.args.table.now.items t c.loop-number.pool.items) (sym c.in_ok-put_word-2.ensures)
    (filled_all seed count (hashed_pairs hashed) c.args.table.now.items c.loop-number.table.items c.loop-number.pool.items filled _ (search rules) (search rules))
