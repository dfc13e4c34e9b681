use Rattle.std.proofs.Common.{rules, arith}
use Rattle.std.proofs.lemmas.Bool.{false≢true}
use Rattle.zerotrie_index.proofs.ValidLemmas.{valid_index, parts_valid}
use Rattle.zerotrie_index.proofs.well_formed.is_well_formed.Goals as goal

pub returns-in_default : goal.returns-in_default
returns-in_default c = (λ is. absurd (false≢true is), λ all. absurd (c.in_default.ensures.first all.0 all.1))

pub returns-then-parts-eq0 : goal.returns-then-parts-eq0
returns-then-parts-eq0 c = (
  λ is. absurd (false≢true is),
  λ all. absurd (let p = c.in-Some.ensures.first all.0 all.1 in let count = p.1 in let some = all.1.some_buckets in let none = c.if-parts-eq0.true in omega arith),
)

pub returns : goal.returns
returns c = (
  λ is. valid_index c.in-Some.parts.seed c.in-Some.parts.count c.args.bytes.now c.in-Some.parts.table.now c.in-Some.parts.pool.now c.in-Some.ensures.found (search rules) (omega (arith, c.if-parts-eq0.false)) (search rules) (c.are_buckets.ensures.0 is),
  λ all. c.are_buckets.ensures.1 (parts_valid all.0 c.args.bytes.now all.1 c.in-Some.parts.seed c.in-Some.parts.count c.in-Some.parts.table.now c.in-Some.parts.pool.now (c.in-Some.ensures.first all.0 all.1)),
)
