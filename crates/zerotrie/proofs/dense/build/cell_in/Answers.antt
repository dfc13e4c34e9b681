use Rattle.std.proofs.Common.{◌∙◌, sym, ap}
use Rattle.std.specs.Option.{option_copied}
use Rattle.zerotrie.specs.dense.Views.{pairs_in}
use Rattle.zerotrie.proofs.BuildLemmas.{lookup_value, cell_inside, cell_outside, cell_absent}
use Rattle.zerotrie.proofs.dense.build.cell_in.Goals as goal

pub returns-then-is_in_window : goal.returns-then-is_in_window
returns-then-is_in_window c =
    let pairs = pairs_in c.args.row.now.entries.now.entries in
    cell_inside c.args.row.now.offset c.in-Some.value.now pairs c.args.suffix.now c.requires (sym (lookup_value c.args.suffix.now c.args.row.now.entries.now.entries) ∙ sym c.get.ensures.value ∙ ap option_copied c.in-Some.is) (sym c.is_in_window.ensures ∙ c.if-is_in_window.true)

pub returns-else-is_in_window : goal.returns-else-is_in_window
returns-else-is_in_window c =
    let pairs = pairs_in c.args.row.now.entries.now.entries in
    cell_outside c.args.row.now.offset c.in-Some.value.now pairs c.args.suffix.now c.requires (sym (lookup_value c.args.suffix.now c.args.row.now.entries.now.entries) ∙ sym c.get.ensures.value ∙ ap option_copied c.in-Some.is) (sym c.is_in_window.ensures ∙ c.if-is_in_window.false)

pub returns-in-None : goal.returns-in-None
returns-in-None c =
    let pairs = pairs_in c.args.row.now.entries.now.entries in
    cell_absent c.args.row.now.offset pairs c.args.suffix.now c.requires (sym (lookup_value c.args.suffix.now c.args.row.now.entries.now.entries) ∙ sym c.get.ensures.value ∙ ap option_copied c.in-None.is)
