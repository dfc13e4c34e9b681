use Rattle.std.proofs.Common.{◌∙◌, ◌∷◌, ap, sym, take}
use Rattle.zerotrie_lines.specs.Records.{between_tabs}
use Rattle.zerotrie_lines.proofs.LineLemmas.{all_behind, first_tab, no_tab, none_so}
use Rattle.zerotrie_lines.proofs.records.take_field.Goals as goal

pub returns-in_err-place-clause-last : goal.returns-in_err-place-clause-last
returns-in_err-place-clause-last c = none_so c.from_residual.result (no_tab c.args.rest.now.now c.in_err-place.ensures)

pub returns-clause-field : goal.returns-clause-field
returns-clause-field c =
    let rest = c.args.rest.now.now in
    let place = c.in_ok-place.place in
    let found = c.in_ok-place.ensures in
    first_tab rest place found.0.high found.0.before found.1 ∙ ap (λ t. take place rest ∷ between_tabs t) (sym (all_behind rest place))
