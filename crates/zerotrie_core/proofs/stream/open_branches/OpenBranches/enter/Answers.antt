use Rattle.std.proofs.Common.{◌∙◌, ◌∷◌, ◌++◌, ◌+◌, [], add-one, ap, slice_index, take, arith, length, refl, reverse, subst, sym}
use Rattle.std.specs.Option.{option_map}
use Rattle.zerotrie_core.specs.listing.Opened.{Nested, pairs_open}
use Rattle.zerotrie_core.specs.declared.stream.opened.OpenBranch.{OpenBranch}
use Rattle.zerotrie_core.specs.listing.Grouped.{CanEnter, AreGrouped}
use Rattle.zerotrie_core.proofs.ListingLemmas.Grouped.{enters_none, enters}
use Rattle.zerotrie_core.proofs.ListingLemmas.Left.{target_says, after_fall, at_next}
use Rattle.zerotrie_core.proofs.stream.open_branches.OpenBranches.enter.Goals as goal

pub returns-in_default-clause-same : goal.returns-in_default-clause-same
returns-in_default-clause-same g c kind =
    let o = c.self.inside.top in
    let key = c.args.key.now.items in
    let nested = subst (Nested (length key)) (sym c.self.view_is) c.requires in
    let says = rw c.in_default.is at (target_says kind o (option_map (λ here. here.rest) c.target.result) nested.1 c.target.ensures) in
    let p : OpenBranch = record { behind = o.behind; tail = o.tail; edges = o.edges; width = o.width; next = o.edges; begin = o.begin; depth = o.depth; narrow = o.narrow; whole = o.whole; lies = o.lies } in
    rw (c.truncate.ensures.items, c.nowhere.ensures) (after_fall key (reverse c.self.inside.outer.items) o p refl (omega arith) kind says ∙ ap (pairs_open kind key) c.self.view_is)

pub returns-clause-same : goal.returns-clause-same
returns-clause-same g c kind =
    let o = c.self.inside.top in
    let key = c.args.key.now.items in
    let target = c.in-Some.target.rest.now in
    let nested = subst (Nested (length key)) (sym c.self.view_is) c.requires in
    let says = rw c.in-Some.is at (target_says kind o (option_map (λ here. here.rest) c.target.result) nested.1 c.target.ensures) in
    let p : OpenBranch = record {
      behind = o.behind;
      tail = o.tail;
      edges = o.edges;
      width = o.width;
      next = o.next + 1;
      begin = o.begin + length target;
      depth = o.depth;
      narrow = o.narrow;
      whole = o.whole;
      lies = o.lies;
    } in
    rw (c.in_ok-push.ensures.items, c.truncate.ensures.items)
    (at_next kind key (reverse c.self.inside.outer.items) o target nested.0.low says p refl refl refl (add-one o.next) refl ∙ ap (pairs_open kind key) c.self.view_is)

pub returns-in_default-clause-grouped : goal.returns-in_default-clause-grouped
returns-in_default-clause-grouped g c kind can =
    let o = c.self.inside.top in
    let key = c.args.key.now.items in
    let nested = subst (Nested (length key)) (sym c.self.view_is) c.requires in
    let p : OpenBranch = record { behind = o.behind; tail = o.tail; edges = o.edges; width = o.width; next = o.edges; begin = o.begin; depth = o.depth; narrow = o.narrow; whole = o.whole; lies = o.lies } in
    let outer = reverse c.self.inside.outer.items in
    subst (λ k. AreGrouped kind k c.nowhere.result.rest.now (p ∷ outer)) (sym c.truncate.ensures.items)
    (subst (λ r. AreGrouped kind (take o.depth key) r (p ∷ outer)) (sym c.nowhere.ensures)
    (enters_none kind key outer o p nested.0.low (subst (CanEnter kind key) (sym c.self.view_is) can) refl (omega arith)))

pub returns-clause-grouped : goal.returns-clause-grouped
returns-clause-grouped g c kind can =
    let o = c.self.inside.top in
    let key = c.args.key.now.items in
    let target = c.in-Some.target.rest in
    let nested = subst (Nested (length key)) (sym c.self.view_is) c.requires in
    let p : OpenBranch = record {
      behind = o.behind;
      tail = o.tail;
      edges = o.edges;
      width = o.width;
      next = o.next + 1;
      begin = o.begin + length target.now;
      depth = o.depth;
      narrow = o.narrow;
      whole = o.whole;
      lies = o.lies;
    } in
    let outer = reverse c.self.inside.outer.items in
    let is = c.in_ok-push.ensures.items ∙ ap (λ k. k ++ slice_index o.behind.now o.next ∷ []) c.truncate.ensures.items in
    subst (λ k. AreGrouped kind k target.now (p ∷ outer)) (sym is)
    (enters kind key outer o p nested.0.low (subst (CanEnter kind key) (sym c.self.view_is) can) refl target nested.1 (rw c.in-Some.is at c.target.ensures) refl refl refl (add-one o.next))
