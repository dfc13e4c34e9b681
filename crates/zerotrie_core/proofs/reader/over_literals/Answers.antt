use Rattle.std.proofs.Common.{sym, ◌∙◌}
use Rattle.std.proofs.lemmas.List.{nil_from_length}
use Rattle.zerotrie_base.specs.Nodes.Shape.{literal}
use Rattle.zerotrie_core.proofs.ReaderLemmas.Edges.{literal_past}
use Rattle.zerotrie_core.proofs.ReaderLemmas.Literals.{literal_run}
use Rattle.zerotrie_core.proofs.ReaderLemmas.LookUps.{literal_ends, node_ends}
use Rattle.zerotrie_core.proofs.reader.over_literals.Goals as goal

pub returns-in_default : goal.returns-in_default
returns-in_default g c = literal_ends g.K.ZeroTrieWithOptions.kind c.args.edge c.args.rest.now c.args.key.now (nil_from_length c.args.key.now c.in_default.ensures.cases)

pub returns-then-folded : goal.returns-then-folded
returns-then-folded g c =
    let kind = g.K.ZeroTrieWithOptions.kind in
    node_ends kind (literal c.args.edge c.args.rest.now) c.in-Some.byte.now c.args.key.now c.in-Some.after.now c.in-Some.ensures.cases.0
    (literal_past kind c.args.edge c.in-Some.byte.now c.args.rest.now (λ e. c.if-folded.true (c.folded.ensures ∙ sym e ∙ sym c.folded-2.ensures)))

pub returns : goal.returns
returns g c =
    let kind = g.K.ZeroTrieWithOptions.kind in
    rw (c.split_at.ensures.back, c.split_at-2.ensures.back)
    (literal_run kind c.args.edge c.in-Some.byte.now c.args.rest.now c.args.key.now c.in-Some.after.now c.common_literals-more.result c.in-Some.ensures.cases.0
    (sym c.folded-2.ensures ∙ sym c.if-folded.false ∙ c.folded.ensures) c.common_literals-more.ensures)
