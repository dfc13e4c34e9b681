use Rattle.std.proofs.Common.{◌∙◌, sym, subst}
use Rattle.zerotrie_core.specs.Kind.{simple_ascii}
use Rattle.zerotrie_core.specs.Texts.{Means}
use Rattle.zerotrie.specs.dense.Layout.{primary, columns}
use Rattle.zerotrie.specs.dense.Views.{parts_of}
use Rattle.zerotrie.proofs.dense.table.ZeroAsciiDenseSparse2dTrieBorrowed.get_bytes.Goals as goal

pub returns-clause-entry : goal.returns-clause-entry
returns-clause-entry c delimiter rows table =
    let mp = subst (λ t. Means simple_ascii t.primary (primary delimiter rows)) (sym table.parts_are) (c.canonical_exactly.ensures.means simple_ascii tt (primary delimiter rows) table.primary_fits) in
    let mc = subst (λ t. Means simple_ascii t.suffixes (columns rows)) (sym table.parts_are) (c.canonical_exactly.ensures.means simple_ascii tt (columns rows) table.columns_fit) in
    c.answer.ensures (primary delimiter rows) (columns rows) mp mc
    ∙ c.answer_is_entry.ensures delimiter rows (parts_of c.args.self.now) (primary delimiter rows) (columns rows) table mp mc c.args.prefix.now c.args.suffix.now
