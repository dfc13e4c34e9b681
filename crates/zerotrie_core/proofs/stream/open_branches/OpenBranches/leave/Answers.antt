use Rattle.std.proofs.Common.{◌≡◌, ◌∙◌, ◌∷◌, [], inl, inr, ap, arith, reverse, subst, sym}
use Rattle.std.proofs.lemmas.List.{nil_from_length, reverse-append}
use Rattle.zerotrie_core.specs.listing.Opened.{Leaves}
use Rattle.zerotrie_core.proofs.ListingLemmas.Skipped.{leaves_none, leaves_more, leaves_all}
use Rattle.zerotrie_core.proofs.stream.open_branches.OpenBranches.leave.Goals as goal

pub loop-self-init : goal.loop-self-init
loop-self-init g c = leaves_none c.args.depth (c.self.inside.top ∷ reverse c.self.inside.outer.items)

pub loop-self-preserved : goal.loop-self-preserved
loop-self-preserved g c =
    let l = c.loop-self in
    let all = c.self.inside.top ∷ reverse c.self.inside.outer.items in
    let outer = c.in-Some.outer in
    let rest = c.pop.new.self.items in
    let around : reverse l.self-inside.outer.items ≡ outer ∷ reverse rest = ap reverse c.in-Some.ensures.items ∙ reverse-append rest (outer ∷ []) in
    leaves_more c.args.depth all l.self-inside.top outer (reverse rest) c.loop-self-test.true (subst (λ bs. Leaves c.args.depth all (l.self-inside.top ∷ bs)) around l.invariant)

pub returns-in_default-clause-leaves : goal.returns-in_default-clause-leaves
returns-in_default-clause-leaves g c =
    let l = c.loop-self in
    let all = c.self.inside.top ∷ reverse c.self.inside.outer.items in
    let counts = c.in_default.ensures.cases in
    let none : l.self-inside.outer.items ≡ [] = nil_from_length l.self-inside.outer.items (omega (arith, counts.0)) in
    let left : c.pop.new.self.items ≡ [] = nil_from_length c.pop.new.self.items (omega (arith, counts.1)) in
    let closed = c.closed-self-inside in
    rw (sym c.self.view_is, left)
    (leaves_all c.args.depth all l.self-inside.top closed.result c.loop-self-test.true closed.ensures.edges closed.ensures.next closed.ensures.depth
    (subst (λ bs. Leaves c.args.depth all (l.self-inside.top ∷ reverse bs)) none l.invariant))

pub returns-clause-leaves : goal.returns-clause-leaves
returns-clause-leaves g c = rw (sym c.self.view_is) c.loop-self.invariant

pub returns-in_default-clause-below : goal.returns-in_default-clause-below
returns-in_default-clause-below g c =
    let counts = c.in_default.ensures.cases in
    let left : c.pop.new.self.items ≡ [] = nil_from_length c.pop.new.self.items (omega (arith, counts.1)) in
    let closed = c.closed-self-inside.ensures in
    inr (omega (arith, closed.edges), ap reverse left)

pub returns-clause-below : goal.returns-clause-below
returns-clause-below g c = let low = c.loop-self-test.false in inl (omega arith)
