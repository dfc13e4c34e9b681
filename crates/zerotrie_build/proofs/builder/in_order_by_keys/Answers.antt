use Rattle.std.proofs.Common.{◌∙◌, inr, subst, sym, ap}
use Rattle.zerotrie_base.specs.Items.{pairs_of, keyed}
use Rattle.zerotrie_build.specs.Order.{Ordered}
use Rattle.zerotrie_build.proofs.Building.{some_foreign}
use Rattle.zerotrie_build.proofs.OrderLemmas.Permuted.{consistent_permuted, keys_permuted, values_permuted}
use Rattle.zerotrie_build.proofs.OrderLemmas.Sorting.{sorted_ordered, plain_consistent}
use Rattle.zerotrie_build.proofs.builder.in_order_by_keys.Goals as goal
use Rattle.zerotrie_build.proofs.builder.in_order_by_keys.Goals.{else-IGNORE_CASE-via-then-IGNORE_CASE+else-not-is_ordered, else-IGNORE_CASE-via-else-IGNORE_CASE}

pub returns-then-not-are_keys-clause-refused : goal.returns-then-not-are_keys-clause-refused
returns-then-not-are_keys-clause-refused g c =
    inr (
      (λ e. cc),
      some_foreign g.K.ZeroTrieWithOptions.kind (keyed g.Key.TrieKey.key c.args.given.now)
          (λ all. let yes = c.are_keys.ensures.keys.1 all in let no = c.if-not-are_keys.true in cc),
    )

pub returns-then-not-is_ordered-clause-refused : goal.returns-then-not-is_ordered-clause-refused
returns-then-not-is_ordered-clause-refused g c =
    let kind = g.K.ZeroTrieWithOptions.kind in
    let sorted = c.in_ok-items.items.items in
    let once = c.in_ok-items.ensures.sorted in
    let from = c.from_byte_slice-sorted.ensures ∙ ap pairs_of c.as_slice.ensures.value in
    inr (
      (λ e. cc),
      λ consistent.
          let agree = consistent_permuted kind (keyed g.Key.TrieKey.key c.args.given.now) (pairs_of sorted) once.same consistent in
          let yes = c.is_ordered.ensures.1 (subst (Ordered kind) (sym from) (sorted_ordered kind sorted once.sorted once.once agree)) in
          let no = c.if-not-is_ordered.true in
          cc,
    )

pub returns-clause-ordered : goal.returns-clause-ordered
returns-clause-ordered g c =
    let kind = g.K.ZeroTrieWithOptions.kind in
    let sorted = c.in_ok-items.items.items in
    let once = c.in_ok-items.ensures.sorted in
    let from = c.from_byte_slice-sorted.ensures ∙ ap pairs_of c.as_slice.ensures.value in
    elim c.else-IGNORE_CASE.branch [
      | else-IGNORE_CASE-via-then-IGNORE_CASE+else-not-is_ordered w ↦
          subst (Ordered kind) from (w.is_ordered.ensures.0 w.if-not-is_ordered.false)
      | else-IGNORE_CASE-via-else-IGNORE_CASE w ↦
          sorted_ordered kind sorted once.sorted once.once (plain_consistent kind (pairs_of sorted)
          (ap (λ f. f.ignore_case) g.K.ZeroTrieWithOptions.flags_are ∙ sym c.IGNORE_CASE.ensures ∙ w.if-IGNORE_CASE.false))
    ]

pub returns-clause-keys : goal.returns-clause-keys
returns-clause-keys g c =
    keys_permuted g.K.ZeroTrieWithOptions.kind (keyed g.Key.TrieKey.key c.args.given.now) (pairs_of c.in_ok-items.items.items) c.in_ok-items.ensures.sorted.same
    (c.are_keys.ensures.keys.0 c.if-not-are_keys.false)

pub returns-clause-values : goal.returns-clause-values
returns-clause-values g c =
    values_permuted (keyed g.Key.TrieKey.key c.args.given.now) (pairs_of c.in_ok-items.items.items) c.in_ok-items.ensures.sorted.same
    (c.are_keys.ensures.values c.if-not-are_keys.false)
