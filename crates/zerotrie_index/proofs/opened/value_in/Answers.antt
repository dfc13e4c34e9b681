use Rattle.std.proofs.Common.{rules, arith, ◌≡◌, ◌+◌, ◌/◌, ◌^◌, [], get_or, length, ap, ◌∙◌, sym, subst}
use Rattle.zerotrie_index.specs.Layout.{mark_of, AreRecords}
use Rattle.zerotrie_index.proofs.BucketLemmas.{has}
use Rattle.zerotrie_index.proofs.RecordLemmas.{cut_between, reaches}
use Rattle.zerotrie_index.proofs.opened.value_in.Goals as goal

pub returns-in_err-entry : goal.returns-in_err-entry
returns-in_err-entry c bytes pairs parts is =
    let of = parts pairs is in
    let h = has pairs bytes is c.args.key.now _ _ _ _ of.0 of.1 c.hash_of-hash.ensures c.hash_of-hash.type_inv c.bucket_of-number.ensures in
    absurd (c.in_err-entry.ensures is.entries of.2 is.entries_below (let n = h.next_inside in omega arith))

pub returns-then-entry-hash-eq0 : goal.returns-then-entry-hash-eq0
returns-then-entry-hash-eq0 c bytes pairs parts is =
    let of = parts pairs is in
    let h = has pairs bytes is c.args.key.now _ _ _ _ of.0 of.1 c.hash_of-hash.ensures c.hash_of-hash.type_inv c.bucket_of-number.ensures in
    let e = c.in_ok-entry.ensures is.entries of.2 is.entries_below (let n = h.next_inside in omega arith) in
    let none : mark_of c.in_ok-entry.entry c.hash_of-hash.result ≡ 0 = search rules in
    sym (h.unmarked (ap (λ x. mark_of x c.hash_of-hash.result) (sym e.0) ∙ none))

pub returns-in_err-records : goal.returns-in_err-records
returns-in_err-records c bytes pairs parts is =
    let of = parts pairs is in
    let h = has pairs bytes is c.args.key.now _ _ _ _ of.0 of.1 c.hash_of-hash.ensures c.hash_of-hash.type_inv c.bucket_of-number.ensures in
    let e = c.in_ok-entry.ensures is.entries of.2 is.entries_below (let n = h.next_inside in omega arith) in
    let b = h.bucket in
    let start : c.in_ok-entry.entry / 2 ^ 32 ≡ length b.before = ap (λ x. x / 2 ^ 32) e.0 ∙ b.from ∙ omega arith in
    let end : c.in_ok-entry.next / 2 ^ 32 ≡ length b.before + length b.records =
    ap (λ x. x / 2 ^ 32) e.1 ∙ ap (λ i. get_or is.entries i 0 / 2 ^ 32) (omega arith) ∙ b.to ∙ omega arith in
    absurd (let there = reaches (c.in_ok-entry.next / 2 ^ 32) c.args.parts.pool.now b.before b.records b.after (of.3 ∙ b.pool_is) end in
    let none = c.in_err-records.ensures.lookup.0 in omega arith)

pub returns : goal.returns
returns c bytes pairs parts is =
    let of = parts pairs is in
    let h = has pairs bytes is c.args.key.now _ _ _ _ of.0 of.1 c.hash_of-hash.ensures c.hash_of-hash.type_inv c.bucket_of-number.ensures in
    let e = c.in_ok-entry.ensures is.entries of.2 is.entries_below (let n = h.next_inside in omega arith) in
    let b = h.bucket in
    let start : c.in_ok-entry.entry / 2 ^ 32 ≡ length b.before = ap (λ x. x / 2 ^ 32) e.0 ∙ b.from ∙ omega arith in
    let end : c.in_ok-entry.next / 2 ^ 32 ≡ length b.before + length b.records =
    ap (λ x. x / 2 ^ 32) e.1 ∙ ap (λ i. get_or is.entries i 0 / 2 ^ 32) (omega arith) ∙ b.to ∙ omega arith in
    let records = cut_between (c.in_ok-entry.entry / 2 ^ 32) (c.in_ok-entry.next / 2 ^ 32) c.args.parts.pool.now b.before b.records b.after (of.3 ∙ b.pool_is) start end in
    c.find_in.ensures (get_or is.buckets c.bucket_of-number.result [])
    (subst (AreRecords (get_or is.buckets c.bucket_of-number.result [])) (sym (c.in_ok-records.ensures.lookup.0.2 ∙ records)) b.are) ∙ sym h.there
