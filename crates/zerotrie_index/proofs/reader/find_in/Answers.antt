use Rattle.std.proofs.Common.{ap, ◌∙◌, sym}
use Rattle.std.proofs.lemmas.Bool.{false≢true}
use Rattle.zerotrie_base.specs.Kind.{simple_ascii}
use Rattle.zerotrie_base.specs.Maps.{same_key}
use Rattle.zerotrie_base.proofs.MapLemmas.Alike.{exact_same, exact_itself}
use Rattle.zerotrie_index.proofs.RecordLemmas.{read_found, read_passed, read_none}
use Rattle.zerotrie_index.proofs.reader.find_in.Goals as goal

pub returns-then-eq : goal.returns-then-eq
returns-then-eq c pairs h =
    let old = c.loop-record.invariant pairs h in
    read_found old.0 _ _ _ _ _ c.in-Some.ensures.first c.in-Some.ensures.shorter (exact_same _ _ (sym c.if-eq.ensures)) old.1 ∙ sym old.2

pub loop-record-preserved : goal.loop-record-preserved
loop-record-preserved c pairs h =
    let old = c.loop-record.invariant pairs h in
    let after = read_passed old.0 _ _ _ c.args.key.now _ c.in-Some.ensures.first c.in-Some.ensures.shorter
    (λ is. false≢true (c.if-eq.ensures ∙ ap (λ k. same_key simple_ascii k c.args.key.now) is ∙ exact_itself c.args.key.now)) old.1 in
    (after.0, after.1, old.2 ∙ after.2)

pub returns : goal.returns
returns c pairs h =
    let old = c.loop-record.invariant pairs h in
    read_none old.0 _ c.args.key.now c.in_default.ensures.first old.1 ∙ sym old.2
