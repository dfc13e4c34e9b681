use Rattle.zerotrie_lines.proofs.TableLemmas.{length-cut}
use Rattle.zerotrie_lines.proofs.table.Table.len.Goals as goal

pub returns : goal.returns
returns c =
    let is = c.self.view_is in
    let l = length-cut c.self.inside.bytes.items c.self.inside.marks.items in
    let n = c.len.ensures in
    cc
