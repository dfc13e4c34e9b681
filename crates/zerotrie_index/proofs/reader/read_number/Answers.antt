use Rattle.std.proofs.Common.{rules, ◌≡◌, ◌∷◌, subst}
use Rattle.zerotrie_base.specs.Numbers.{BeginsWith}
use Rattle.zerotrie_index.proofs.RecordLemmas.{number_read}
use Rattle.zerotrie_index.proofs.reader.read_number.Goals as goal

pub returns-clause-first : goal.returns-clause-first
returns-clause-first c v after b =
    let is : c.args.bytes.now ≡ c.in_ok-start.start.now ∷ c.in_ok-start.rest.now = search rules in
    number_read _ _ _ c.read_varint_meta2.ensures.found c.read_varint_meta2.ensures.none v after (subst (λ x. BeginsWith 32 0 v x after) is b)
