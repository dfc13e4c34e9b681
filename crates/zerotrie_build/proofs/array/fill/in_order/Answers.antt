use Rattle.std.proofs.Common.{◌≡◌, ◌+◌, suc, [], ap, arith, refl, subst, inl, inr}
use Rattle.zerotrie_build.specs.Items.{pairs}
use Rattle.zerotrie_build.specs.Order.{Before, PartInCase}
use Rattle.zerotrie_build.specs.Refused.{key_at}
use Rattle.zerotrie_build.proofs.ItemLemmas.{got}
use Rattle.zerotrie_build.proofs.ArrayLemmas.Ordering.{unsorted_at, mixed_at}
use Rattle.zerotrie_build.proofs.array.fill.in_order.Goals as goal

pub returns-then-part_in_case-clause-refused : goal.returns-then-part_in_case-clause-refused
returns-then-part_in_case-clause-refused g c =
    let kind = g.K.ZeroTrieWithOptions.kind in
    let all = pairs c.args.items in
    let i = c.in-Some.index in
    let next : i + 1 ≡ suc i = omega arith in
    let key = ap (λ e. e.0) (got all i ([], 0) _ c.get.ensures) in
    let other = ap (λ e. e.0) (got all (i + 1) ([], 0) _ c.get-2.ensures) in
    let parts = c.part_in_case.ensures.0 c.if-part_in_case.true in
    let here : PartInCase kind (key_at all i) (key_at all (i + 1)) = rw (key, other) parts in
    inr (refl, mixed_at kind all i (let l = c.in-Some.ensures.some.0 in omega arith) (subst (λ n. PartInCase kind (key_at all i) (key_at all n)) next here))

pub returns-clause-refused : goal.returns-clause-refused
returns-clause-refused g c =
    let kind = g.K.ZeroTrieWithOptions.kind in
    let all = pairs c.args.items in
    let i = c.in-Some.index in
    let next : i + 1 ≡ suc i = omega arith in
    let key = ap (λ e. e.0) (got all i ([], 0) _ c.get.ensures) in
    let other = ap (λ e. e.0) (got all (i + 1) ([], 0) _ c.get-2.ensures) in
    let late = subst (λ n. Before kind (key_at all i) (key_at all n) → ⊥) next c.in-Some.ensures.some.1 in
    inl (
      refl,
      unsorted_at kind all i (let l = c.in-Some.ensures.some.0 in omega arith) late
          (λ parts.
          let back : suc i ≡ i + 1 = omega arith in
          let here : PartInCase kind (key_at all i) (key_at all (i + 1)) = subst (λ n. PartInCase kind (key_at all i) (key_at all n)) back parts in
          let there = rw (key, other) at here in
          let yes = c.part_in_case.ensures.1 there in
          let no = c.if-part_in_case.false in
          cc),
    )
