use Rattle.std.proofs.Common.{◌∙◌}
use Rattle.zerotrie_index.proofs.WrittenLemmas.{passed}
use Rattle.zerotrie_index.proofs.builder.bucket_len.Goals as goal

pub returns-else-bucket_of-number-clause-later : goal.returns-else-bucket_of-number-clause-later
returns-else-bucket_of-number-clause-later c up all k d within =
    passed c.args.count c.args.number c.loop-len.len c.args.hashed.now up all _ c.loop-len-test.true (λ same. c.if-bucket_of-number.false (c.bucket_of.ensures ∙ same)) k d within
