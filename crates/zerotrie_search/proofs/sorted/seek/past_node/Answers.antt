use Rattle.std.proofs.Common.{◌∙◌, ◌+◌, ℕ, ap, arith, length, sym, subst, reverse, take}
use Rattle.zerotrie_search.specs.Forks.{IsRun}
use Rattle.zerotrie_search.specs.Walks.{rooms}
use Rattle.zerotrie_search.proofs.NextLemmas.{found_room}
use Rattle.zerotrie_search.proofs.StandLemmas.{follows_value, node_no_bound, node_past, ends_climbed, literal_run, span_run, not_nothing}
use Rattle.zerotrie_search.proofs.sorted.seek.past_node.Goals as goal

pub returns-in_ok-next-in-None-clause-goes : goal.returns-in_ok-next-in-None-clause-goes
returns-in_ok-next-in-None-clause-goes g c pairs bound f =
    let byte = c.args.byte in
    let more = c.args.more.now in
    let none = c.in-None.ensures.node in (
      node_no_bound f byte more c.requires none,
      ends_climbed f c.climb.new.key.items (reverse c.climb.new.forks.items) c.in_ok-next-in-None.next (c.in_ok-next-in-None.ensures.arrives pairs c.args.left.now f.way (node_past f byte more c.requires none)),
    )

pub returns-in-Some-Value-clause-goes : goal.returns-in-Some-Value-clause-goes
returns-in-Some-Value-clause-goes g c pairs bound f =
    follows_value f c.in-Some-Value._value c.in-Some-Value.after.now (not_nothing c.args.byte c.args.more.now c.args.left.now c.requires) (rw c.in-Some-Value.field-0-is at c.in-Some-Value.ensures.begins)

pub returns-in_ok-way-in-Some-Literal-clause-goes : goal.returns-in_ok-way-in-Some-Literal-clause-goes
returns-in_ok-way-in-Some-Literal-clause-goes g c pairs bound f =
    let kind = g.K.ZeroTrieWithOptions.kind in
    let at = c.args.at.now in
    let after = c.in-Some-Literal.after.now in
    let begins = rw c.in-Some-Literal.field-0-is at c.in-Some-Literal.ensures.begins in
    c.in_ok-way-in-Some-Literal.ensures.goes pairs bound (not_nothing c.args.byte c.args.more.now c.args.left.now c.requires) f
    (subst (λ r. IsRun kind at r after) (sym (c.split_at.ensures.front ∙ ap (take 1) begins.1)) (literal_run kind at c.in-Some-Literal._edge after begins))

pub returns-in_ok-way-in-Some-Span-clause-goes : goal.returns-in_ok-way-in-Some-Span-clause-goes
returns-in_ok-way-in-Some-Span-clause-goes g c pairs bound f =
    let begins = rw c.in-Some-Span.field-0-is at c.in-Some-Span.ensures.begins in
    c.in_ok-way-in-Some-Span.ensures.goes pairs bound (not_nothing c.args.byte c.args.more.now c.args.left.now c.requires) f
    (span_run g.K.ZeroTrieWithOptions.kind c.args.at.now c.in-Some-Span.run'.now c.in-Some-Span.after.now begins)

pub returns-in_ok-next-in-None-clause-shorter : goal.returns-in_ok-next-in-None-clause-shorter
returns-in_ok-next-in-None-clause-shorter g c =
    let old : ℕ = rooms (reverse c.args.forks.now.items) in
    found_room c.in_ok-next-in-None.next (rooms (reverse c.climb.new.forks.items)) old (length c.args.at.now + old) c.in_ok-next-in-None.ensures.room (omega arith)
