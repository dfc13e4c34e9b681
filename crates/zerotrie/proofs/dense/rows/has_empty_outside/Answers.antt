use Rattle.std.proofs.Common.{◌∙◌, sym, ap, []}
use Rattle.std.specs.Prelude.{not, is_some}
use Rattle.std.specs.Option.{option_copied}
use Rattle.zerotrie.specs.dense.Views.{pairs_in}
use Rattle.zerotrie.specs.dense.Windows.{in_window}
use Rattle.zerotrie.proofs.BuildLemmas.{lookup_value, filtered, passing, is_passing}
use Rattle.zerotrie.proofs.dense.rows.has_empty_outside.Goals as goal

pub returns-in-Some : goal.returns-in-Some
returns-in-Some c =
    let pairs = pairs_in c.args.entries.now.entries in
    let is = sym (lookup_value [] c.args.entries.now.entries) ∙ sym c.get.ensures.value in
    ap not c.is_in_window.ensures
    ∙ sym (ap is_some (filtered (λ v. not (in_window c.args.start v)) pairs [] c.requires) ∙ is_passing (λ v. not (in_window c.args.start v)) _ c.in-Some.value.now (is ∙ ap option_copied c.in-Some.is))

pub returns-in-None : goal.returns-in-None
returns-in-None c =
    let pairs = pairs_in c.args.entries.now.entries in
    let is = sym (lookup_value [] c.args.entries.now.entries) ∙ sym c.get.ensures.value in
    sym (ap is_some (filtered (λ v. not (in_window c.args.start v)) pairs [] c.requires) ∙ ap (λ o. is_some (passing (λ v. not (in_window c.args.start v)) o)) (is ∙ ap option_copied c.in-None.is))
