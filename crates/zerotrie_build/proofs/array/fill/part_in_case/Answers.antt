use Rattle.std.proofs.Common.{◌≡◌, ◌∙◌, sym, ap, arith, get_or}
use Rattle.std.proofs.lemmas.Bool.{eqb-true, eq-eqb}
use Rattle.zerotrie_base.specs.Kind.{fold_byte}
use Rattle.zerotrie_build.proofs.OrderLemmas.Parting.{common, common_most}
use Rattle.zerotrie_build.proofs.ArrayLemmas.Ordering.{parts_there, parts_at}
use Rattle.zerotrie_build.proofs.array.fill.part_in_case.Goals as goal

pub returns-then-common-min : goal.returns-then-common-min
returns-then-common-min g c = (
  λ no. absurd (cc),
  λ parts.
      let there = parts_there g.K.ZeroTrieWithOptions.kind c.args.key.now c.args.next.now parts in
      let e = c.common_front_len-common.ensures in
      let m = c.min.ensures in
      let i = c.if-common-min.true in
      absurd (omega (arith, there.0, there.1)),
)

pub bounds-key-common : goal.bounds-key-common
bounds-key-common g c =
    let most = common_most c.args.key.now c.args.next.now in
    let e = c.common_front_len-common.ensures in
    let m = c.min.ensures in
    let i = c.if-common-min.false in
    omega (arith, most.0, most.1)

pub bounds-next-common : goal.bounds-next-common
bounds-next-common g c =
    let most = common_most c.args.key.now c.args.next.now in
    let e = c.common_front_len-common.ensures in
    let m = c.min.ensures in
    let i = c.if-common-min.false in
    omega (arith, most.0, most.1)

pub returns : goal.returns
returns g c =
    let kind = g.K.ZeroTrieWithOptions.kind in
    let key = c.args.key.now in
    let next = c.args.next.now in
    let most = common_most key next in
    let e = c.common_front_len-common.ensures in
    let m = c.min.ensures in
    let i = c.if-common-min.false in
    let first : c.folded.result ≡ fold_byte kind (get_or key (common key next) 0) = c.folded.ensures ∙ ap (λ p. fold_byte kind (get_or key p 0)) e in
    let second : c.folded-2.result ≡ fold_byte kind (get_or next (common key next) 0) = c.folded-2.ensures ∙ ap (λ p. fold_byte kind (get_or next p 0)) e in (
      λ yes. parts_at kind key next (omega (arith, most.0, most.1)) (omega (arith, most.0, most.1)) (sym first ∙ eqb-true c.folded.result c.folded-2.result yes ∙ second),
      λ parts. eq-eqb c.folded.result c.folded-2.result (first ∙ (parts_there kind key next parts).2 ∙ sym second),
    )
