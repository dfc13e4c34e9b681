use Rattle.std.proofs.Common.{rules, ◌≡◌, ◌∷◌, [], ◌++◌, ◌∙◌, Some, ap, sym}
use Rattle.zerotrie_core.specs.Kinds.{kind_of}
use Rattle.zerotrie_core.specs.Maps.{look}
use Rattle.zerotrie_sets.specs.Merges.{if_some}
use Rattle.zerotrie_sets.specs.Operations.{choose}
use Rattle.zerotrie_queries.specs.Recased.{looked_up}
use Rattle.zerotrie_queries.proofs.RecasedLemmas.{one_looked_up}
use Rattle.zerotrie_queries.proofs.any_case.look_up_each.Goals as goal

pub loop-table-preserved : goal.loop-table-preserved
loop-table-preserved g c = λ n means.
    let l = c.loop-table in
    let operation = c.args.operation in
    let at = look (kind_of c.args.other.now.kind) n in
    let e = g.S.PairStream.current c.advance.new.self in
    let next = (g.S.PairStream.left c.advance.new.self).pairs in
    let more = looked_up operation at next in
    let key = c.key-in-loop-table.result.now in
    let value = c.value_by-value.result in
    let first : (g.S.PairStream.left l.pairs).pairs ≡ e ∷ next = search rules in
    let pushed : c.push_some.new.table ≡ l.table ++ if_some key value [] = search rules in
    let key_is : key ≡ e.0 = search rules in
    let asked : c.key.result.now ≡ e.0 = search rules in
    let own : c.value.result ≡ e.1 = search rules in
    let value_is : value ≡ choose operation (Some e.1) (at e.0) =
    c.value_by-value.ensures ∙ ap (λ v. choose operation (Some v) c.get.result) own
    ∙ ap (λ found. choose operation (Some e.1) found) (c.get.ensures n means ∙ ap at asked) in
    ap (λ t. t ++ more) pushed ∙ one_looked_up l.table key value more
    ∙ ap (λ k. l.table ++ if_some k value more) key_is
    ∙ ap (λ v. l.table ++ if_some e.0 v more) value_is
    ∙ ap (λ ps. l.table ++ looked_up operation at ps) (sym first)
    ∙ l.invariant n means
