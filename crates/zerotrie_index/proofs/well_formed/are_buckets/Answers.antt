use Rattle.std.proofs.Common.{rules, arith, sym, ◌∙◌}
use Rattle.std.proofs.lemmas.Bool.{false≢true}
use Rattle.zerotrie_index.proofs.ValidLemmas.{stepped, step_ends, step_to, all_rest, joined, ended, ending, empty_is, is_empty}
use Rattle.zerotrie_index.proofs.well_formed.are_buckets.Goals as goal

pub returns-in_default-read_word : goal.returns-in_default-read_word
returns-in_default-read_word c = (
  λ is. absurd (false≢true is),
  λ all.
      let s = stepped c.args.seed c.args.count c.loop-number.number c.loop-number.entry c.loop-number.table.now c.loop-number.pool.now c.loop-number-test.true (c.loop-number.invariant.0 (all_rest c.args.seed c.args.count c.in-Some.first c.args.table.now c.in-Some.after.now c.args.pool.now c.in-Some.ensures.first all).1) in
      absurd (c.in_default-read_word.ensures.first s.next s.after s.below s.table_is),
)

pub returns-in_default-split_pool : goal.returns-in_default-split_pool
returns-in_default-split_pool c = (
  λ is. absurd (false≢true is),
  λ all.
      let s = stepped c.args.seed c.args.count c.loop-number.number c.loop-number.entry c.loop-number.table.now c.loop-number.pool.now c.loop-number-test.true (c.loop-number.invariant.0 (all_rest c.args.seed c.args.count c.in-Some.first c.args.table.now c.in-Some.after.now c.args.pool.now c.in-Some.ensures.first all).1) in
      absurd (c.in_default-split_pool.ensures.first s.records s.behind s.pool_is
      (step_ends c.args.seed c.args.count c.loop-number.number c.loop-number.entry c.in-Some-read_word.next c.loop-number.table.now c.in-Some-read_word.after.now c.loop-number.pool.now c.in-Some-read_word.ensures.first s)),
)

pub returns-then-not-is_bucket : goal.returns-then-not-is_bucket
returns-then-not-is_bucket c = (
  λ is. absurd (false≢true is),
  λ all.
      let s = stepped c.args.seed c.args.count c.loop-number.number c.loop-number.entry c.loop-number.table.now c.loop-number.pool.now c.loop-number-test.true (c.loop-number.invariant.0 (all_rest c.args.seed c.args.count c.in-Some.first c.args.table.now c.in-Some.after.now c.args.pool.now c.in-Some.ensures.first all).1) in
      let t = step_to c.args.seed c.args.count c.loop-number.number c.loop-number.entry c.in-Some-read_word.next c.loop-number.table.now c.in-Some-read_word.after.now c.loop-number.pool.now
      c.in-Some-split_pool.records.now c.in-Some-split_pool.rest.now c.in-Some-read_word.ensures.first c.in-Some-split_pool.ensures.first s in
      absurd (false≢true (sym c.if-not-is_bucket.true ∙ c.is_bucket.ensures.1 t.0)),
)

pub loop-number-preserved : goal.loop-number-preserved
loop-number-preserved c = (
  λ rest.
      let s = stepped c.args.seed c.args.count c.loop-number.number c.loop-number.entry c.loop-number.table.now c.loop-number.pool.now c.loop-number-test.true (c.loop-number.invariant.0 rest) in
      (step_to c.args.seed c.args.count c.loop-number.number c.loop-number.entry c.in-Some-read_word.next c.loop-number.table.now c.in-Some-read_word.after.now c.loop-number.pool.now
      c.in-Some-split_pool.records.now c.in-Some-split_pool.rest.now c.in-Some-read_word.ensures.first c.in-Some-split_pool.ensures.first s).1,
  λ rest. c.loop-number.invariant.1 (joined c.args.seed c.args.count c.loop-number.number c.loop-number.entry c.in-Some-read_word.next c.loop-number.table.now c.in-Some-read_word.after.now c.loop-number.pool.now
      c.in-Some-split_pool.records.now c.in-Some-split_pool.rest.now c.in-Some-read_word.ensures.found (search rules) c.in-Some-split_pool.ensures.found.0 c.in-Some-split_pool.ensures.found.1
      (c.is_bucket.ensures.0 c.if-not-is_bucket.false) rest),
)

pub returns-then-not-is_empty : goal.returns-then-not-is_empty
returns-then-not-is_empty c = (
  λ is. absurd (false≢true is),
  λ all.
      let e = ended c.args.seed c.args.count c.loop-number.number c.loop-number.entry c.loop-number.table.now c.loop-number.pool.now (omega (arith, c.loop-number-test.false)) (c.loop-number.invariant.0 (all_rest c.args.seed c.args.count c.in-Some.first c.args.table.now c.in-Some.after.now c.args.pool.now c.in-Some.ensures.first all).1) in
      absurd (false≢true (sym c.if-not-is_empty.true ∙ is_empty c.loop-number.table.now c.is_empty.result c.is_empty.ensures e.0)),
)

pub returns : goal.returns
returns c = (
  λ is. (
    c.in-Some.first,
    c.in-Some.after.now,
    c.in-Some.ensures.found,
    (search rules),
    (search rules),
    c.loop-number.invariant.1 (ending c.args.seed c.args.count c.loop-number.number c.loop-number.entry c.loop-number.table.now c.loop-number.pool.now (omega (arith, c.loop-number-test.false))
        (empty_is c.loop-number.table.now c.is_empty.result c.is_empty.ensures c.if-not-is_empty.false) (empty_is c.loop-number.pool.now c.is_empty-2.result c.is_empty-2.ensures is)),
  ),
  λ all.
      let e = ended c.args.seed c.args.count c.loop-number.number c.loop-number.entry c.loop-number.table.now c.loop-number.pool.now (omega (arith, c.loop-number-test.false)) (c.loop-number.invariant.0 (all_rest c.args.seed c.args.count c.in-Some.first c.args.table.now c.in-Some.after.now c.args.pool.now c.in-Some.ensures.first all).1) in
      is_empty c.loop-number.pool.now c.is_empty-2.result c.is_empty-2.ensures e.1,
)
