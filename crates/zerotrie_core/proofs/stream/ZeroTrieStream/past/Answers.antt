use Rattle.std.proofs.Common.{◌≡◌, ◌∙◌, [], ℕ, List, refl, sym, length, subst, Option, Some, None}
use Rattle.std.specs.Borrow.{Bor}
use Rattle.std.proofs.lemmas.List.{nil_from_length}
use Rattle.std.proofs.lemmas.Bool.{eqb-true, eqb-false}
use Rattle.zerotrie_base.specs.Kind.{Kind}
use Rattle.zerotrie_base.specs.reader.Reading.{AlwaysFinds}
use Rattle.zerotrie_core.specs.listing.Passed.{IsTowards, LeadsOn, gone_to}
use Rattle.zerotrie_core.specs.declared.here.Here.{Here}
use Rattle.zerotrie_core.specs.declared.stream.opened.OpenBranch.{OpenBranch}
use Rattle.zerotrie_core.proofs.ListingLemmas.Passed.{value_elsewhere, pass_starts, pass_nowhere, pass_none, pass_found, pass_most, pass_on, leads_value}
use Rattle.zerotrie_core.specs.listing.Grouped.{AreGrouped}
use Rattle.zerotrie_core.proofs.ListingLemmas.Grouped.{after_value}
use Rattle.zerotrie_core.proofs.stream.ZeroTrieStream.past.Goals as goal
use Rattle.zerotrie_core.proofs.stream.ZeroTrieStream.past.Goals.{in-Value+else-is_empty, in-Literal+in_ok-passed-in-Literal, in-Span+in_ok-passed-in-Span, in-Branch+in_ok-passed-in-Branch}

pub returns-in_default-clause-past : goal.returns-in_default-clause-past
returns-in_default-clause-past g c pairs text =
    value_elsewhere g.K.ZeroTrieWithOptions.kind c.args.front.items c.args.sought.now pairs (rw c.as_slice.ensures.value at c.in_default.ensures)

pub loop-node-init : goal.loop-node-init
loop-node-init g c =
    let h = rw c.as_slice.ensures.value at c.in-Some.ensures in
    let branches = c.closed-branches.ensures in
    rw c.at-at.ensures
    (pass_starts g.K.ZeroTrieWithOptions.kind c.args.bytes.now c.args.front.items c.args.sought.now c.in-Some.left.now h.0 c.closed-branches.result (branches.stands (length c.args.front.items)) branches.none branches.entered h.1 h.2)

pub standing-requires : goal.standing-requires
standing-requires g c = c.loop-node.invariant.stands

pub returns-then-is_empty-clause-past : goal.returns-then-is_empty-clause-past
returns-then-is_empty-clause-past g c pairs text =
    let begins = rw c.in-Value.is at c.in-Some-first_node.ensures.begins in
    let none : c.loop-node.left.now ≡ [] = nil_from_length c.loop-node.left.now (eqb-true _ _ (sym c.is_empty.ensures ∙ c.if-is_empty.true)) in
    rw (c.standing.ensures.left, c.behind-at.ensures) (refl, pass_found c.loop-node.invariant c.in-Value.value c.in-Value.after.now begins none pairs text)

pub returns-then-is_empty-clause-most : goal.returns-then-is_empty-clause-most
returns-then-is_empty-clause-most g c =
    let begins = rw c.in-Value.is at c.in-Some-first_node.ensures.begins in
    rw (c.standing.ensures.left, c.behind-at.ensures) (pass_most c.loop-node.invariant c.in-Value.value c.in-Value.after.now begins)

pub returns-then-is_empty-clause-grouped : goal.returns-then-is_empty-clause-grouped
returns-then-is_empty-clause-grouped g c pairs text =
    let l = c.loop-node in
    let kind = g.K.ZeroTrieWithOptions.kind in
    let begins = rw c.in-Value.is at c.in-Some-first_node.ensures.begins in
    let grouped = after_value kind l.key.items l.at.rest.now c.in-Value.after.now c.in-Value.value l.branches begins (l.invariant.grouped pairs text) in
    c.standing.ensures.grouped (subst (λ r. AreGrouped kind l.key.items r l.branches) (sym c.behind-at.ensures) grouped)

-- a step that was taken, by what it answered
leads : (kind : Kind) (at left key : List ℕ) (branches : List OpenBranch) (passed : Option (Here × Bor (List ℕ))) (next : Here) (more : Bor (List ℕ)) (key' : List ℕ) (branches' : List OpenBranch)
    → passed ≡ Some (next, more) → IsTowards kind at left key branches (gone_to passed) key' branches' → LeadsOn kind at left key branches next.rest.now more.now key' branches'
leads kind at left key branches passed next more key' branches' is step = subst (λ r. IsTowards kind at left key branches (gone_to r) key' branches') is step

ends : (kind : Kind) (at left key : List ℕ) (branches : List OpenBranch) (passed : Option (Here × Bor (List ℕ))) (key' : List ℕ) (branches' : List OpenBranch)
    → passed ≡ None → IsTowards kind at left key branches (gone_to passed) key' branches' → AlwaysFinds kind at left None 1
ends kind at left key branches passed key' branches' is step = subst (λ r. IsTowards kind at left key branches (gone_to r) key' branches') is step

pub returns-in_default-passed-clause-past : goal.returns-in_default-passed-clause-past
returns-in_default-passed-clause-past g c pairs text =
    let l = c.loop-node in
    let kind = g.K.ZeroTrieWithOptions.kind in
    let stands = l.invariant.stands in
    elim c.match-node.branch [
      | in-Value+else-is_empty w ↦ (let is = w.passed-is in let none = c.in_default-passed.is in absurd (cc))
      | in-Literal+in_ok-passed-in-Literal w ↦ pass_none l.invariant
          (ends kind l.at.rest.now l.left.now l.key.items l.branches w.in_ok-passed-in-Literal.passed w.past_literal.new.key.items l.branches (sym w.passed-is ∙ c.in_default-passed.is)
          (w.in_ok-passed-in-Literal.ensures l.branches stands)) pairs text
      | in-Span+in_ok-passed-in-Span w ↦ pass_none l.invariant
          (ends kind l.at.rest.now l.left.now l.key.items l.branches w.in_ok-passed-in-Span.passed w.past_span.new.key.items l.branches (sym w.passed-is ∙ c.in_default-passed.is)
          (w.in_ok-passed-in-Span.ensures l.branches stands)) pairs text
      | in-Branch+in_ok-passed-in-Branch w ↦ pass_none l.invariant
          (ends kind l.at.rest.now l.left.now l.key.items l.branches w.in_ok-passed-in-Branch.passed w.past_branch.new.key.items w.past_branch.new.branches
          (sym w.passed-is ∙ c.in_default-passed.is) w.in_ok-passed-in-Branch.ensures) pairs text
    ]

pub loop-node-smaller : goal.loop-node-smaller
loop-node-smaller g c =
    let l = c.loop-node in
    let kind = g.K.ZeroTrieWithOptions.kind in
    let stands = l.invariant.stands in
    let next = c.in-Some-passed.next in
    let more = c.in-Some-passed.more in
    elim c.match-node.branch [
      | in-Value+else-is_empty w ↦ (
          let begins = rw w.in-Value.is at c.in-Some-first_node.ensures.begins in
          let some = eqb-false _ _ (sym w.is_empty.ensures ∙ w.if-is_empty.false) in
          let on = rw (← w.behind-at.ensures) at (leads_value kind stands w.in-Value.value w.in-Value.after.now begins some) in
          (leads kind l.at.rest.now l.left.now l.key.items l.branches (Some (w.behind-at.result, l.left)) next more l.key.items l.branches (sym w.passed-is ∙ c.in-Some-passed.is) on).shorter
          )
      | in-Literal+in_ok-passed-in-Literal w ↦ (leads kind l.at.rest.now l.left.now l.key.items l.branches w.in_ok-passed-in-Literal.passed next more w.past_literal.new.key.items l.branches (sym w.passed-is ∙ c.in-Some-passed.is)
          (w.in_ok-passed-in-Literal.ensures l.branches stands)).shorter
      | in-Span+in_ok-passed-in-Span w ↦ (leads kind l.at.rest.now l.left.now l.key.items l.branches w.in_ok-passed-in-Span.passed next more w.past_span.new.key.items l.branches (sym w.passed-is ∙ c.in-Some-passed.is)
          (w.in_ok-passed-in-Span.ensures l.branches stands)).shorter
      | in-Branch+in_ok-passed-in-Branch w ↦ (leads kind l.at.rest.now l.left.now l.key.items l.branches w.in_ok-passed-in-Branch.passed next more w.past_branch.new.key.items w.past_branch.new.branches
          (sym w.passed-is ∙ c.in-Some-passed.is) w.in_ok-passed-in-Branch.ensures).shorter
    ]

pub loop-node-preserved : goal.loop-node-preserved
loop-node-preserved g c =
    let l = c.loop-node in
    let kind = g.K.ZeroTrieWithOptions.kind in
    let stands = l.invariant.stands in
    let next = c.in-Some-passed.next in
    let more = c.in-Some-passed.more in
    elim c.match-node.branch [
      | in-Value+else-is_empty w ↦ (
          let begins = rw w.in-Value.is at c.in-Some-first_node.ensures.begins in
          let some = eqb-false _ _ (sym w.is_empty.ensures ∙ w.if-is_empty.false) in
          let on = rw (← w.behind-at.ensures) at (leads_value kind stands w.in-Value.value w.in-Value.after.now begins some) in
          rw (w.key-is, w.branches-is)
          (pass_on l.invariant (leads kind l.at.rest.now l.left.now l.key.items l.branches (Some (w.behind-at.result, l.left)) next more l.key.items l.branches (sym w.passed-is ∙ c.in-Some-passed.is) on))
          )
      | in-Literal+in_ok-passed-in-Literal w ↦ rw (w.key-is, w.branches-is) (pass_on l.invariant
          (leads kind l.at.rest.now l.left.now l.key.items l.branches w.in_ok-passed-in-Literal.passed next more w.past_literal.new.key.items l.branches (sym w.passed-is ∙ c.in-Some-passed.is)
          (w.in_ok-passed-in-Literal.ensures l.branches stands)))
      | in-Span+in_ok-passed-in-Span w ↦ rw (w.key-is, w.branches-is) (pass_on l.invariant
          (leads kind l.at.rest.now l.left.now l.key.items l.branches w.in_ok-passed-in-Span.passed next more w.past_span.new.key.items l.branches (sym w.passed-is ∙ c.in-Some-passed.is)
          (w.in_ok-passed-in-Span.ensures l.branches stands)))
      | in-Branch+in_ok-passed-in-Branch w ↦ rw (w.key-is, w.branches-is) (pass_on l.invariant
          (leads kind l.at.rest.now l.left.now l.key.items l.branches w.in_ok-passed-in-Branch.passed next more w.past_branch.new.key.items w.past_branch.new.branches
          (sym w.passed-is ∙ c.in-Some-passed.is) w.in_ok-passed-in-Branch.ensures))
    ]

pub returns-clause-past : goal.returns-clause-past
returns-clause-past g c pairs text = pass_nowhere c.loop-node.invariant c.in_default-first_node.ensures.node pairs text
