use Rattle.std.proofs.Common.{◌≡◌, ◌≤◌, length, ◌+◌, sym, ◌∙◌, ap, subst, refl, arith, append_assoc, [], ◌∷◌, ◌++◌}
use Rattle.std.proofs.lemmas.List.{append-nil, map-append}
use Rattle.zerotrie_build.specs.declared.windows.Window.{Window}
use Rattle.zerotrie_build.specs.Order.{Ordered}
use Rattle.zerotrie_build.specs.passes.Windows.{window, byte_of, IsGroup, GoesOnWith}
use Rattle.zerotrie_build.specs.passes.Measured.{TargetWindows}
use Rattle.zerotrie_build.specs.passes.Walking.{item_ends}
use Rattle.zerotrie_build.proofs.WindowLemmas.Ends.{ordered_rest}
use Rattle.zerotrie_build.proofs.measure.FirstPass.push_ends.Goals as goal

pub loop-rest-init : goal.loop-rest-init
loop-rest-init g c = record {
  items = refl;
  branches = refl;
  added = [];
  slots = sym (append-nil c.args.self.now.slots.items);
  parts = λ more rest. rest;
  order = c.requires.order;
  to = refl;
  depth = refl;
  ordered = c.requires.ordered;
  byte = c.byte_in-byte.ensures;
}

pub group_of-group-requires : goal.group_of-group-requires
group_of-group-requires g c =
    let v = c.loop-rest.invariant in
    let to = v.to in let r = c.requires.within in
    let within = subst (λ x. c.loop-rest.rest.to ≤ length (g.I.IndexedItems.pairs x)) (sym v.items) (omega arith) in
    let ordered = subst (λ x. Ordered g.K.ZeroTrieWithOptions.kind (window (g.I.IndexedItems.pairs x) c.loop-rest.rest)) (sym v.items) v.ordered in
    λ k. ((refl, tt), (c.loop-rest-test.true, (within, (ordered, subst (λ x. GoesOnWith (g.I.IndexedItems.pairs x) c.loop-rest.rest c.loop-rest.byte) (sym v.items) v.byte))))

pub loop-rest-preserved : goal.loop-rest-preserved
loop-rest-preserved g c =
    let v = c.loop-rest.invariant in
    let all = g.I.IndexedItems.pairs c.args.self.now.items in
    let w = c.loop-rest.rest in
    let e = c.group_of-group.ensures.0 in
    let some = e.some in let most = e.within in let to = v.to in
    let new : Window = record { from = w.from; to = c.group_of-group.result.end; depth = w.depth + 1 } in
    record {
      items = v.items;
      branches = v.branches;
      added = v.added ++ new ∷ [];
      slots = c.in_ok-push.ensures.items ∙ ap (λ x. x ++ new.to ∷ []) v.slots ∙ append_assoc c.args.self.now.slots.items (item_ends v.added) (new.to ∷ []) ∙ ap (λ x. c.args.self.now.slots.items ++ x) (sym (map-append (λ c. c.to) v.added (new ∷ [])));
      parts = λ more rest. subst (TargetWindows all c.args.window) (sym (append_assoc v.added (new ∷ []) more)) (v.parts (new ∷ more) (refl, refl, subst (λ x. IsGroup (g.I.IndexedItems.pairs x) w c.group_of-group.result.end) v.items e, rest));
      order = omega arith;
      to = v.to;
      depth = v.depth;
      ordered = ordered_rest g.K.ZeroTrieWithOptions.kind all w.from new.to w.to w.depth (omega arith) most v.ordered;
      byte = λ more. subst (λ x. c.group_of-group.result.next ≡ byte_of (g.I.IndexedItems.pairs x) new.to w.depth) v.items (c.group_of-group.ensures.1 more);
    }

pub returns-clause-ends : goal.returns-clause-ends
returns-clause-ends g c =
    let v = c.loop-rest.invariant in
    let t = c.loop-rest-test.false in let o = v.order in let to = v.to in
    (v.added, subst (TargetWindows (g.I.IndexedItems.pairs c.args.self.now.items) c.args.window) (append-nil v.added) (v.parts [] (omega arith)), v.slots)
