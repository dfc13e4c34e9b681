use Rattle.std.proofs.Common.{◌++◌, ◌+◌, length, ◌∙◌, ap}
use Rattle.zerotrie_queries.specs.code.Texts.{end}
use Rattle.zerotrie_queries.specs.code.Items.{items}
use Rattle.zerotrie_queries.proofs.CodeLemmas.{items_counted, front_passed, end_passed}
use Rattle.zerotrie_queries.proofs.code.laws.code_counts_bytes.Goals as goal

pub returns : goal.returns
returns c = λ language kind name bytes in_c is all.
    front_passed language kind name (items 0 bytes ++ end language kind name) in_c is
    ∙ items_counted 0 bytes (end language kind name) all
    ∙ ap (λ n. length bytes + n) (end_passed language kind name in_c)
