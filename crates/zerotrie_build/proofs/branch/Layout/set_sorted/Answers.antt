use Rattle.std.proofs.Common.{[], ◌∷◌, ◌+◌, ◌++◌, ◌∙◌, ap, refl, subst, arith}
use Rattle.std.proofs.lemmas.List.{append-nil}
use Rattle.zerotrie_build.specs.declared.windows.Window.{Window}
use Rattle.zerotrie_build.specs.passes.Measured.{TargetWindows}
use Rattle.zerotrie_build.proofs.WindowLemmas.Ends.{ordered_rest}
use Rattle.zerotrie_build.proofs.WriteLemmas.Layouts.{parts_more, edges_more, edge_known}
use Rattle.zerotrie_build.proofs.branch.Layout.set_sorted.Goals as goal

pub loop-rest-preserved : goal.loop-rest-preserved
loop-rest-preserved g c =
    let v = c.loop-rest.invariant in
    let rest = c.loop-rest.rest in
    let all = g.I.IndexedItems.pairs c.args.items in
    let ws = c.loop-rest.self.windows.items in
    let ws' = c.push-in-loop-rest.new.self.items in
    let target : Window = record { from = rest.from; to = c.group_of-group.result.end; depth = rest.depth + 1 } in
    let pushed = c.in_ok-push-2.ensures.items ∙ ap (λ t. ws ++ t ∷ []) c.new-target.ensures in
    let edge = edge_known all rest c.loop-rest.byte target.to c.unwrap_or.result (v.byte c.loop-rest-test.true) c.unwrap_or.ensures in
    let group = c.group_of-group.ensures.0 in
    record {
      parts = λ cs p. parts_more all c.args.window ws ws' target cs pushed (v.parts (target ∷ cs) (refl, refl, group, p));
      table = edges_more all ws ws' target c.loop-rest.self.table.items c.push.new.self.items c.unwrap_or.result pushed c.in_ok-push.ensures.items v.table edge;
      order = group.within;
      to_is = v.to_is;
      depth_is = v.depth_is;
      ordered = ordered_rest g.K.ZeroTrieWithOptions.kind all rest.from target.to rest.to rest.depth (let some = group.some in omega arith) group.within v.ordered;
      byte = c.group_of-group.ensures.1;
    }

pub returns-clause-parts : goal.returns-clause-parts
returns-clause-parts g c =
    let v = c.loop-rest.invariant in
    subst (TargetWindows (g.I.IndexedItems.pairs c.args.items) c.args.window) (append-nil c.loop-rest.self.windows.items)
    (v.parts [] (let o = v.order in let t = c.loop-rest-test.false in omega arith))
