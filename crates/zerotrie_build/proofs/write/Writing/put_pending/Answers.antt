use Rattle.std.proofs.Common.{rules, refl, ◌≡◌, [], ◌∷◌, ◌++◌, length, reverse, arith, sym, ap, subst, ◌∙◌}
use Rattle.zerotrie_build.specs.declared.windows.Window.{Window}
use Rattle.zerotrie_build.specs.declared.branch.PendingWindow.{PendingWindow}
use Rattle.zerotrie_build.specs.passes.Writing.{position_at, IsPending}
use Rattle.zerotrie_build.specs.passes.Writes.{WrittenTo}
use Rattle.zerotrie_build.proofs.Stacks.{popped}
use Rattle.zerotrie_build.proofs.WriteLemmas.Writing.{left_room, left_more, left_less, leads_none, leads_go, leads_text}
use Rattle.zerotrie_build.proofs.write.Writing.put_pending.Goals as goal

pub loop-next-preserved-in-Go : goal.loop-next-preserved-in-Go
loop-next-preserved-in-Go g c =
    let v = c.loop-next.invariant in
    let rest = reverse c.pop.new.self.items in
    (v.0, v.1, leads_go c.in-Go.there rest v.2 (popped _ _ _ c.in-Some.ensures.items ∙ ap (λ x. x ∷ rest) c.in-Go.is))

pub put_nodes-requires : goal.put_nodes-requires
put_nodes-requires g c =
    let kind = g.K.ZeroTrieWithOptions.kind in
    let all = g.I.IndexedItems.pairs c.args.items in
    let v = c.loop-next.invariant in
    let next_window : PendingWindow = c.in-Text.field-0 in
    let w : Window = record { from = c.loop-next.position.from; to = next_window.to; depth = next_window.depth } in
    let rest = reverse c.pop.new.self.items in
    let first = popped _ _ _ c.in-Some.ensures.items ∙ ap (λ x. x ∷ rest) c.in-Text.is in
    let t = leads_text next_window rest v.2 first in
    let left : WrittenTo kind all c.loop-next.self (w ∷ t.behind) = subst (WrittenTo kind all c.loop-next.self) t.is v.1 in
    λ k. ((refl, tt), (c.requires.keys, (c.requires.ascii, (c.requires.ordered, ((t.end, t.kept), left_room left)))))

pub loop-next-smaller : goal.loop-next-smaller
loop-next-smaller g c =
    let kind = g.K.ZeroTrieWithOptions.kind in
    let all = g.I.IndexedItems.pairs c.args.items in
    let v = c.loop-next.invariant in
    let next_window : PendingWindow = c.in-Text.field-0 in
    let w : Window = record { from = c.loop-next.position.from; to = next_window.to; depth = next_window.depth } in
    let rest = reverse c.pop.new.self.items in
    let first = popped _ _ _ c.in-Some.ensures.items ∙ ap (λ x. x ∷ rest) c.in-Text.is in
    let t = leads_text next_window rest v.2 first in
    let left : WrittenTo kind all c.loop-next.self (w ∷ t.behind) = subst (WrittenTo kind all c.loop-next.self) t.is v.1 in
    let put = c.in_ok-put_nodes-in-Text.ensures.put in
    let pending : put.0 ++ rest ≡ reverse c.put_nodes.new.pending.items = sym put.1 in
    let less = left_less rest left put.2 in
    let a = ap length pending in
    let b = ap length first in
    omega arith

pub loop-next-preserved : goal.loop-next-preserved
loop-next-preserved g c =
    let kind = g.K.ZeroTrieWithOptions.kind in
    let all = g.I.IndexedItems.pairs c.args.items in
    let slots = c.args.input.slots.now in
    let v = c.loop-next.invariant in
    let next_window : PendingWindow = c.in-Text.field-0 in
    let w : Window = record { from = c.loop-next.position.from; to = next_window.to; depth = next_window.depth } in
    let rest = reverse c.pop.new.self.items in
    let first = popped _ _ _ c.in-Some.ensures.items ∙ ap (λ x. x ∷ rest) c.in-Text.is in
    let t = leads_text next_window rest v.2 first in
    let left : WrittenTo kind all c.loop-next.self (w ∷ t.behind) = subst (WrittenTo kind all c.loop-next.self) t.is v.1 in
    let next = c.in_ok-put_nodes-in-Text.ensures.put.0 in
    let put = c.in_ok-put_nodes-in-Text.ensures.put.2 in
    let pending : next ++ rest ≡ reverse c.put_nodes.new.pending.items = sym c.in_ok-put_nodes-in-Text.ensures.put.1 in
    (put.targets ++ t.behind, left_more left put, subst (λ x. IsPending kind all slots (position_at w.to c.loop-next.position.slot) x (put.targets ++ t.behind)) pending (put.leads t.end rest t.behind t.kept t.leads))

pub returns-clause-put : goal.returns-clause-put
returns-clause-put g c =
    let v = c.loop-next.invariant in
    let none : c.loop-next.pending.items ≡ [] = search rules in
    subst (WrittenTo g.K.ZeroTrieWithOptions.kind (g.I.IndexedItems.pairs c.args.items) c.loop-next.self) (leads_none v.2 (ap reverse none)) v.1
