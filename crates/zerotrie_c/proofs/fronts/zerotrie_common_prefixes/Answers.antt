use Rattle.std.proofs.Common.{◌∙◌, ◌<◌, ap, arith, subst, sym}
use Rattle.zerotrie.proofs.Fallbacks.{all_to_come}
use Rattle.zerotrie_core.specs.Kinds.{kind_of}
use Rattle.zerotrie_core.specs.Prefixes.{at_front, most_left}
use Rattle.zerotrie_c.specs.Fronts.{AreFrontsTold}
use Rattle.zerotrie_c.proofs.FrontsLemmas.{Going, going_none, going_more, going_end}
use Rattle.zerotrie_c.proofs.fronts.zerotrie_common_prefixes.Goals as goal

pub loop-len-init : goal.loop-len-init
loop-len-init c =
    let kind = kind_of c.in-Some.trie.kind in
    let start = at_front kind c.args.bytes.now c.args.text.now in
    let here = c.into_iter-len-iterator.ensures.into_iter_gives ∙ c.common_prefixes-len-items.ensures ∙ ap (λ b. at_front kind b c.args.text.now) c.in-Some.ensures.bytes in (
      kind,
      c.in-Some.ensures.kind,
      subst (λ s. Going start s 0 c.args.lens.now c.args.lens.now c.args.values.now c.args.values.now) (sym here) (going_none start c.args.lens.now c.args.values.now),
    )

pub overflow_add-count : goal.overflow_add-count
overflow_add-count c =
    let g = c.loop-len.invariant.2 in
    let few = g.few in
    let count = g.told.0 in
    omega (arith, few, count)

pub loop-len-preserved : goal.loop-len-preserved
loop-len-preserved c =
    let i = c.loop-len.invariant in
    let fewer : most_left c.next.new.self < most_left c.loop-len.len-iterator = (c.in-Some-2.ensures.goes.on tt).2 in
    rw (c.put_at.ensures, c.put_at-in-loop-len.ensures)
    (i.0, i.1, going_more i.2 (c.in-Some-2.len, c.in-Some-2.value) c.next.new.self c.in-Some-2.ensures.steps fewer)

pub returns-clause-known : goal.returns-clause-known
returns-clause-known c =
    let i = c.loop-len.invariant in
    rw i.1 (λ m means.
    let all = all_to_come i.0 c.args.bytes.now c.args.text.now m means in
    subst (λ found. AreFrontsTold found c.loop-len.count c.args.lens.now c.loop-len.lens c.args.values.now c.loop-len.values) all.1
    (going_end i.2 c.next.new.self c.in-None.ensures.steps means.pairs all.0))

pub returns-clause-any : goal.returns-clause-any
returns-clause-any c =
    let g = c.loop-len.invariant.2 in
    let few = g.few in
    (g.found, g.within, omega (arith, few), g.told)
