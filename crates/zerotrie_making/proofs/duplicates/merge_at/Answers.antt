use Rattle.std.proofs.Common.{◌<◌, ◌^◌, refl, sym, subst}
use Rattle.std.proofs.lemmas.List.{map-set}
use Rattle.std.proofs.lemmas.List.Elements.{All-set}
use Rattle.zerotrie_lines.specs.Tables.{Pair, pairs_of}
use Rattle.zerotrie_making.specs.Kept.{AreSmall}
use Rattle.zerotrie_making.proofs.MergedLemmas.{merged_item}
use Rattle.zerotrie_making.proofs.duplicates.merge_at.Goals as goal

pub returns-in-Some-clause-merged : goal.returns-in-Some-clause-merged
returns-in-Some-clause-merged c = λ key.
    merged_item c.args.rule c.args.items.now.items c.args.place c.index.result.now c.index.result.now c.index.result.now.0 c.in-Some.one (key, c.args.next) c.requires c.index.ensures refl c.in-Some.ensures.some

pub returns-in-Some-clause-small : goal.returns-in-Some-clause-small
returns-in-Some-clause-small c = λ all.
    let one : Pair = (c.index.result.now.0.now, c.in-Some.one) in
    subst (λ ps. AreSmall ps) (sym (map-set (λ e. (e.0.now, e.1)) c.args.items.now.items c.args.place (c.index.result.now.0, c.in-Some.one)))
    (All-set (λ e. e.1 < 2 ^ 64) (pairs_of c.args.items.now.items) c.args.place one c.in-Some.ensures.small all)
