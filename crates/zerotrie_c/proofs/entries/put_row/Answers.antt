use Rattle.std.proofs.Common.{ap, ◌∙◌}
use Rattle.zerotrie.specs.dense.Views.{rows_in}
use Rattle.zerotrie_c.proofs.FrontLemmas.{row_front}
use Rattle.zerotrie_c.proofs.entries.put_row.Goals as goal

pub returns-clause-put : goal.returns-clause-put
returns-clause-put c = ap rows_in (c.in_ok-insert.ensures.entries ∙ row_front c.args.rows.now.entries c.args.prefix c.args.row c.requires)
