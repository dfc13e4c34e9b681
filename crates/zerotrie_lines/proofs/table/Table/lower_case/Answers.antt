use Rattle.std.proofs.Common.{◌≡◌, ◌∙◌, ap, sym, map, length}
use Rattle.std.specs.Char.{to_ascii_lowercase}
use Rattle.std.proofs.lemmas.List.{with_items_is, length-map}
use Rattle.zerotrie_lines.specs.Tables.{cut, lowered_pair}
use Rattle.zerotrie_lines.proofs.TableLemmas.{cut_lowered}
use Rattle.zerotrie_lines.proofs.table.Table.lower_case.Goals as goal

pub returns : goal.returns
returns c =
    let bytes = c.self.inside.bytes in
    let is : c.make_ascii_lowercase.new.self ≡ map to_ascii_lowercase bytes.items = c.make_ascii_lowercase.ensures.after ∙ ap (map to_ascii_lowercase) c.deref_mut.ensures.value in
    let whole : length c.make_ascii_lowercase.new.self ≡ bytes.len = ap length is ∙ length-map bytes.items to_ascii_lowercase ∙ sym bytes.ok.0 in
    ap (λ xs. cut xs c.self.inside.marks.items) (with_items_is bytes c.make_ascii_lowercase.new.self whole ∙ is)
    ∙ cut_lowered bytes.items c.self.inside.marks.items ∙ ap (map lowered_pair) c.self.view_is
