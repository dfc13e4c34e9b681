use Rattle.std.proofs.Common.{refl, inl}
use Rattle.zerotrie_index.proofs.RepeatLemmas.{repeats_part}
use Rattle.zerotrie_index.proofs.builder.test_bucket.Goals as goal

pub returns-then-repeats_key-clause-err : goal.returns-then-repeats_key-clause-err
returns-then-repeats_key-clause-err c = inl (refl, repeats_part 0 _ c.args.bucket.now (c.repeats_key.ensures.0 c.if-repeats_key.true))
