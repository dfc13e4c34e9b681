use Rattle.std.proofs.Common.{◌++◌, append-nil, ◌∙◌, ap}
use Rattle.zerotrie_queries.specs.code.Texts.{end}
use Rattle.zerotrie_queries.specs.code.Items.{items}
use Rattle.zerotrie_queries.proofs.CodeLemmas.{items_read, front_read, end_read}
use Rattle.zerotrie_queries.proofs.code.laws.code_spells_bytes.Goals as goal

pub returns : goal.returns
returns c = λ language kind name bytes is all.
    front_read language kind name (items 0 bytes ++ end language kind name) is
    ∙ items_read 0 bytes (end language kind name) all
    ∙ ap (λ rest. bytes ++ rest) (end_read language kind name is)
    ∙ append-nil bytes
