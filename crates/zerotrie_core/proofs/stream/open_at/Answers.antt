use Rattle.std.proofs.lemmas.Grind.{common_steps}
use Rattle.std.proofs.Common.{◌≡◌, ◌∙◌, ◌∷◌, ◌++◌, [], add-one, ap, arith, length, refl, slice_index, subst, sym}
use Rattle.zerotrie_core.specs.Shapes.{branch_shape}
use Rattle.zerotrie_core.specs.listing.Passed.{GoesInto}
use Rattle.zerotrie_core.proofs.ReaderLemmas.Edges.{follow_goes, follow_some, follow_stops}
use Rattle.zerotrie_core.proofs.ListingLemmas.Left.{branch_end}
use Rattle.zerotrie_core.proofs.ListingLemmas.Passed.{opens_into}
use Rattle.zerotrie_core.proofs.stream.open_at.Goals as goal

pub returns-in_default : goal.returns-in_default
returns-in_default g c =
    let b = c.args.branch in
    follow_stops g.K.ZeroTrieWithOptions.kind b.edges b.width b.table.now b.behind.now c.args.byte c.in_default.ensures.none

pub new-requires : goal.new-requires
new-requires g c =
    let b = c.args.branch in
    branch_end g.K.ZeroTrieWithOptions.kind c.args.here.rest.now b.edges b.width b.table.now b.behind.now c.requires.begins

pub returns-in_default-target : goal.returns-in_default-target
returns-in_default-target g c =
    let b = c.args.branch in
    let at = c.at_edge-inner.ensures in
    let new' = c.new.ensures in
    let got = rw (at.edges, at.width, at.behind, at.next, new'.edges, new'.width, new'.behind) at c.in_default-target.ensures in
    follow_some g.K.ZeroTrieWithOptions.kind b.edges b.width b.table.now b.behind.now c.args.byte c.in-Some.place c.in-Some.ensures.some.0 got

pub returns : goal.returns
returns g c =
    let kind = g.K.ZeroTrieWithOptions.kind in
    let b = c.args.branch in
    let at = c.at_edge-inner.ensures in
    let new' = c.new.ensures in
    let place = c.in-Some.place in
    let key = c.args.key.now.items in
    let branches = c.args.branches.now in
    let bytes = c.args.here.rest.now in
    let target = c.in-Some-target.target.rest in
    let o = c.at_edge-inner.result in
    let len : c.len.result ≡ length key = grind (arith, common_steps) in
    let got = rw (at.edges, at.width, at.behind, at.next, new'.edges, new'.width, new'.behind) at c.in-Some-target.ensures in
    let key_is = c.in_ok-push.ensures.items ∙ ap (λ e. key ++ e ∷ []) c.edge_at.ensures in
    subst (λ k. GoesInto kind (branch_shape b) c.args.byte bytes key branches target.now k c.open.new.self) (sym key_is)
    (subst (GoesInto kind (branch_shape b) c.args.byte bytes key branches target.now (key ++ slice_index b.behind.now place ∷ [])) (sym c.in_ok-open.ensures)
    (opens_into kind bytes b.edges b.width b.table.now b.behind.now c.requires.begins place c.in-Some.ensures.some.0 c.args.byte c.in-Some.ensures.some.1 key branches c.requires.stands
    o (at.edges ∙ new'.edges) (at.width ∙ new'.width) (at.behind ∙ new'.behind) at.next (rw (at.edges, at.width, at.behind, at.next) at.begin) (at.depth ∙ new'.depth ∙ len) target c.in-Some-target.ensures
    _ refl refl refl (add-one o.next) refl refl (follow_goes kind b.edges b.width b.table.now b.behind.now c.args.byte place target c.in-Some.ensures.some got)))
