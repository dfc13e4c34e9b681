use Rattle.std.proofs.lemmas.Grind.{common_steps}
use Rattle.zerotrie_base.specs.Maps.{with_run}
use Rattle.zerotrie_core.specs.listing.Listed.{listed}
use Rattle.zerotrie_core.specs.listing.Opened.{Nested, Stands, still_open, pairs_open}
use Rattle.std.proofs.Common.{◌≡◌, ◌<◌, inl, arith, sym, ap, subst, refl, ◌∙◌, ◌++◌, length}
use Rattle.zerotrie_core.proofs.ListingLemmas.Left.{first_open, at_end, at_value, at_literals, at_span, at_branch, at_any, any_longer, branch_less, literals_shorter, stands_longer, stands_run, still_nested, still_pairs, still_less, span_end, branch_end, value_end}
use Rattle.zerotrie_core.specs.listing.Grouped.{CanEnter}
use Rattle.zerotrie_core.proofs.ListingLemmas.Grouped.{goes_value, goes_span, goes_literals, goes_branch, goes_next, moved_any}
use Rattle.zerotrie_core.proofs.stream.next_value.Goals as goal

pub behind-requires : goal.behind-requires
behind-requires g c =
    value_end g.K.ZeroTrieWithOptions.kind c.loop-branches.at.0.now c.in-Some-Value.after.now c.in-Some-Value.value (rw c.in-Some-Value.field-0-is at c.in-Some-Value.ensures.begins)

pub returns-in-Some-Value : goal.returns-in-Some-Value
returns-in-Some-Value g c =
    let l = c.loop-branches in
    let read = rw c.in-Some-Value.field-0-is at c.in-Some-Value.ensures.node in
    let begins = rw c.in-Some-Value.field-0-is at c.in-Some-Value.ensures.begins in
    rw c.behind.ensures
    (l.invariant.stands, λ grouped. goes_value g.K.ZeroTrieWithOptions.kind l.key.items l.at.0.now c.in-Some-Value.after.now c.in-Some-Value.value l.branches begins (l.invariant.grouped grouped), l.invariant.same ∙ at_value g.K.ZeroTrieWithOptions.kind l.key.items l.at.0.now c.in-Some-Value.after.now c.in-Some-Value.value l.branches read)

pub loop-branches-preserved-in-Some-Literal : goal.loop-branches-preserved-in-Some-Literal
loop-branches-preserved-in-Some-Literal g c =
    let l = c.loop-branches in
    let at = c.in_ok-at-in-Some-Literal.at in
    let moves = c.in_ok-at-in-Some-Literal.ensures in
    let key = c.push_literals.new.key.items in
    let shorter = literals_shorter l.key.items l.at.0.now key at.rest.now moves in
    record {
      lies = at.lies;
      stands = stands_longer (length l.key.items) (length key) l.branches shorter.1 l.invariant.stands;
      grouped = λ grouped. goes_literals g.K.ZeroTrieWithOptions.kind l.key.items l.at.0.now key at.rest.now l.branches moves (l.invariant.grouped grouped);
      same = l.invariant.same
          ∙ at_literals g.K.ZeroTrieWithOptions.kind l.key.items l.at.0.now key at.rest.now l.branches (first_open (length l.key.items) l.branches l.invariant.stands) moves;
    }

pub behind-at-requires : goal.behind-at-requires
behind-at-requires g c =
    span_end g.K.ZeroTrieWithOptions.kind c.loop-branches.at.0.now c.in-Some-Span.run'.now c.in-Some-Span.after.now (rw c.in-Some-Span.field-0-is at c.in-Some-Span.ensures.begins)

pub loop-branches-preserved-in-Some-Span : goal.loop-branches-preserved-in-Some-Span
loop-branches-preserved-in-Some-Span g c =
    let l = c.loop-branches in
    let run = c.in-Some-Span.run'.now in
    let read = rw c.in-Some-Span.field-0-is at c.in-Some-Span.ensures.node in
    let begins = rw c.in-Some-Span.field-0-is at c.in-Some-Span.ensures.begins in
    rw c.in_ok-extend_from_slice-in-Some-Span.ensures.items (record {
      lies = c.behind-at.result.lies;
      stands = stands_run l.key.items run l.branches l.invariant.stands;
      grouped = λ grouped. rw c.behind-at.ensures (goes_span g.K.ZeroTrieWithOptions.kind l.key.items l.at.0.now run c.in-Some-Span.after.now l.branches begins (l.invariant.grouped grouped));
      same = rw c.behind-at.ensures (
          l.invariant.same
          ∙ at_span g.K.ZeroTrieWithOptions.kind l.key.items l.at.0.now run c.in-Some-Span.after.now l.branches (first_open (length l.key.items) l.branches l.invariant.stands) read
          );
    })

pub new-requires : goal.new-requires
new-requires g c =
    let b = c.in-Some-Branch.branch in
    branch_end g.K.ZeroTrieWithOptions.kind c.loop-branches.at.0.now b.edges b.width b.table.now b.behind.now (rw c.in-Some-Branch.field-0-is at c.in-Some-Branch.ensures.begins)

pub returns-then-not-has_target : goal.returns-then-not-has_target
returns-then-not-has_target g c =
    let kind = g.K.ZeroTrieWithOptions.kind in
    let l = c.loop-branches in
    let none = c.has_target.ensures.none c.if-not-has_target.true in (
      subst (Stands (length l.key.items)) (sym none.1) l.invariant.stands,
      tt,
      l.invariant.same
          ∙ at_end kind l.key.items l.at.0.now l.branches c.in-None.ensures.node
          ∙ sym (still_pairs kind l.key.items l.branches l.invariant.stands)
          ∙ ap (pairs_open kind l.key.items) none.0,
    )

pub loop-branches-preserved : goal.loop-branches-preserved
loop-branches-preserved g c =
    let kind = g.K.ZeroTrieWithOptions.kind in
    let l = c.loop-branches in
    let b = c.in-Some-Branch.branch in
    let inner = c.new.result in
    let outer = still_open l.branches in
    let read = rw c.in-Some-Branch.field-0-is at c.in-Some-Branch.ensures.node in
    let begins = rw c.in-Some-Branch.field-0-is at c.in-Some-Branch.ensures.begins in
    let len : c.len.result ≡ length l.key.items = grind (arith, common_steps) in
    let depth : inner.depth ≡ length l.key.items = c.new.ensures.depth ∙ len in
    let some : inner.next < inner.edges = omega (arith, c.new.ensures.next, c.new.ensures.edges, b.some.0) in
    record {
      lies = c.nowhere-at.result.lies;
      stands = rw c.in_ok-open-in-Some-Branch.ensures (
        record { low = omega (arith, depth); inside = omega (arith, some); begins = λ _. rw (c.new.ensures.begin, c.new.ensures.next) refl },
        subst (λ d. Nested d outer) (sym depth) (still_nested (length l.key.items) l.branches l.invariant.stands),
      );
      grouped = λ grouped. rw (c.nowhere-at.ensures, c.in_ok-open-in-Some-Branch.ensures)
          (goes_branch kind l.key.items l.at.0.now b.edges b.width b.table.now b.behind.now l.branches inner begins c.new.ensures.edges c.new.ensures.width c.new.ensures.behind some depth
          (l.invariant.grouped grouped));
      same = rw (c.nowhere-at.ensures, c.in_ok-open-in-Some-Branch.ensures) (
          l.invariant.same
          ∙ ap (λ ps. with_run l.key.items (listed kind l.at.0.now) ++ ps) (sym (still_pairs kind l.key.items l.branches l.invariant.stands))
          ∙ at_branch kind l.key.items l.at.0.now b.edges b.width b.table.now b.behind.now outer inner read c.new.ensures.edges c.new.ensures.width c.new.ensures.behind
          c.new.ensures.next depth
          );
    }

pub enter-requires : goal.enter-requires
enter-requires g c =
    let l = c.loop-branches in
    subst (Nested (length l.key.items)) (sym (c.has_target.ensures.some c.if-not-has_target.false)) (still_nested (length l.key.items) l.branches l.invariant.stands)

pub loop-branches-preserved-in-None : goal.loop-branches-preserved-in-None
loop-branches-preserved-in-None g c =
    let kind = g.K.ZeroTrieWithOptions.kind in
    let l = c.loop-branches in
    let key = c.enter.new.key.items in
    let target = c.in_ok-enter-in-None.field-0.rest.now in
    let at = c.in_ok-at-in-None.at in
    let entered = c.in_ok-enter-in-None.ensures in
    let longer = any_longer key target c.push_run.new.key.items at.rest.now c.in_ok-at-in-None.ensures in
    record {
      lies = at.lies;
      stands = stands_longer (length key) (length c.push_run.new.key.items) c.enter.new.self longer.1 entered.stands;
      grouped = λ grouped. (
          let can = subst (CanEnter kind l.key.items) (sym (c.has_target.ensures.some c.if-not-has_target.false))
          (goes_next kind l.key.items l.at.0.now l.branches l.invariant.stands (l.invariant.grouped grouped)) in
          let after = moved_any kind key target c.push_run.new.key.items at.rest.now c.enter.new.self c.in_ok-at-in-None.ensures (entered.grouped kind can) in
          (after.0, inl after.1)
          );
      same = l.invariant.same
          ∙ at_end kind l.key.items l.at.0.now l.branches c.in-None.ensures.node
          ∙ sym (still_pairs kind l.key.items l.branches l.invariant.stands)
          ∙ ap (pairs_open kind l.key.items) (sym (c.has_target.ensures.some c.if-not-has_target.false))
          ∙ sym (entered.same kind)
          ∙ sym (at_any kind key target c.push_run.new.key.items at.rest.now c.enter.new.self (first_open (length key) c.enter.new.self entered.stands) c.in_ok-at-in-None.ensures);
    }

pub loop-branches-smaller-in-None : goal.loop-branches-smaller-in-None
loop-branches-smaller-in-None g c =
    let l = c.loop-branches in
    let longer = any_longer c.enter.new.key.items c.in_ok-enter-in-None.field-0.rest.now c.push_run.new.key.items c.in_ok-at-in-None.at.rest.now c.in_ok-at-in-None.ensures in
    let less = rw (c.has_target.ensures.some c.if-not-has_target.false) at c.in_ok-enter-in-None.ensures.less in
    omega (arith, longer.0, less, still_less l.branches)

pub loop-branches-smaller : goal.loop-branches-smaller
loop-branches-smaller g c =
    let l = c.loop-branches in
    let b = c.in-Some-Branch.branch in
    let new' = c.new.ensures in
    let read = rw c.in-Some-Branch.field-0-is at c.in-Some-Branch.ensures.node in
    rw (c.nowhere-at.ensures, c.in_ok-open-in-Some-Branch.ensures)
    (branch_less g.K.ZeroTrieWithOptions.kind l.at.0.now b.edges b.width b.table.now b.behind.now (still_open l.branches) l.branches c.new.result read new'.edges new'.width new'.behind new'.next new'.begin (still_less l.branches))
