use Rattle.zerotrie_run.proofs.AtPlacesLemmas.{nows, looked_up}
use Rattle.zerotrie_run.proofs.at_places.look_up.Goals as goal

pub returns : goal.returns
returns g c =
    let index = c.in_ok-index.index in
    looked_up (g.F.OpenFile.held c.args.file.now) _ c.args.query (nows c.args.keys.now) index.front c.new-text.result.items
    c.add_answers_at.new.lines.items c.in_ok-all.all c.in_ok-index.ensures.front c.in_ok-index.ensures.table c.in_ok-index.ensures.same c.new-text.ensures.items c.in_ok-all.ensures.added
