use Rattle.std.proofs.Common.{◌∙◌, ap, sym}
use Rattle.std.proofs.lemmas.Bool.{eqb-true, eqb-false}
use Rattle.std.specs.Option.{option_map}
use Rattle.zerotrie_base.specs.Kind.{fold_byte}
use Rattle.zerotrie_core.specs.listing.Passed.{IsAfterEdge}
use Rattle.zerotrie_core.proofs.Chosen.{chosen}
use Rattle.zerotrie_base.proofs.NumberLemmas.Numbers.{cons_parts}
use Rattle.zerotrie_core.proofs.stream.after_edge.Goals as goal

pub returns : goal.returns
returns g c =
    let kind = g.K.ZeroTrieWithOptions.kind in
    let byte = c.in_ok-byte.byte.now in
    let left = c.in_ok-byte.left.now in
    let is = c.in_ok-byte.ensures.cases.0 in
    chosen (λ r. IsAfterEdge kind c.args.edge c.args.key.now (option_map (λ left. left.now) r)) _ _ c.then_some.result c.then_some.ensures
    (λ yes. (byte, is, sym c.folded.ensures ∙ eqb-true _ _ yes ∙ c.folded-2.ensures))
    (λ no other more is' e. eqb-false _ _ no (c.folded.ensures ∙ e ∙ ap (fold_byte kind) (cons_parts other byte more left (sym is' ∙ is)).0 ∙ sym c.folded-2.ensures))
