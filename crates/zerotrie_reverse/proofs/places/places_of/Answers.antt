use Rattle.std.proofs.Common.{◌≡◌, ◌∙◌, ◌++◌, ℕ, List, length, ap, arith, subst}
use Rattle.std.proofs.lemmas.List.{length-append}
use Rattle.zerotrie_core.specs.Listings.{Left}
use Rattle.zerotrie_reverse.specs.Tables.{pair_at, pairs_at}
use Rattle.zerotrie_reverse.proofs.FirstLemmas.{placed_more}
use Rattle.zerotrie_reverse.proofs.places.places_of.Goals as goal

pub loop-pairs-preserved : goal.loop-pairs-preserved
loop-pairs-preserved g c =
    let kind = g.K.ZeroTrieWithOptions.kind in
    let now = c.advance.new.self in
    let one = rw c.if-branch.true at c.in_ok-advance.ensures.lists in
    let is : pair_at kind c.args.bytes.now c.in-Ok.place ≡ (now.key, now.value) =
    c.in_ok-has_pair.ensures c.if-not-branch.false
    ∙ ap (λ (key : List ℕ). (key, c.value.result)) c.key-in-loop-pairs.ensures
    ∙ ap (λ (value : ℕ). (now.key, value)) c.value.ensures in
    let fewer = ap (λ (left : Left). length left.pairs) one.0 in
    let longer = simp length-append at (ap length c.in_ok-push.ensures.items) in (
      λ pairs text.
          rw c.in_ok-push.ensures.items
          (placed_more kind c.args.bytes.now c.loop-pairs.places.items c.in-Ok.place (now.key, now.value) now.left.pairs pairs
          (subst (λ (left : Left). pairs_at kind c.args.bytes.now c.loop-pairs.places.items ++ left.pairs ≡ pairs) one.0 (c.loop-pairs.invariant.0 pairs text)) is),
      omega (arith, c.loop-pairs.invariant.1, fewer, longer),
    )
