use Rattle.std.proofs.Common.{ap}
use Rattle.zerotrie_queries.proofs.ChoiceLemmas.{on_err_so}
use Rattle.zerotrie_queries.proofs.DiffLemmas.{all_told, part_told, ok_both}
use Rattle.zerotrie_queries.proofs.diff.write_merged.Goals as goal

pub returns-clause-all : goal.returns-clause-all
returns-clause-all g c =
    let contents = g.W.Write.contents in
    ok_both c.write_changes.result
    (λ same wrote equal.
    all_told (g.S.PairStream.left c.args.first).pairs (g.T.PairStream.left c.args.second).pairs c.new-diff.result.left.items (contents c.args.output.now.inner) (contents c.write_changes.new.output.inner) same
    c.diffs_are_of_maps.ensures c.no_change.ensures c.requires.first c.requires.second (ap (λ l. l.items) c.new-diff.ensures.always) wrote equal)
    c.write_changes.ensures.all c.write_changes.ensures.none

pub returns-clause-part : goal.returns-clause-part
returns-clause-part g c =
    let contents = g.W.Write.contents in
    on_err_so c.write_changes.result
    (λ wrote.
    part_told (g.S.PairStream.left c.args.first).pairs (g.T.PairStream.left c.args.second).pairs c.new-diff.result.left.items (contents c.args.output.now.inner) (contents c.write_changes.new.output.inner)
    c.diffs_are_of_maps.ensures c.requires.first c.requires.second (ap (λ l. l.items) c.new-diff.ensures.always) wrote)
    c.write_changes.ensures.part
