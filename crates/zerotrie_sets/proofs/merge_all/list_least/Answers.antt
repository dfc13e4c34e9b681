use Rattle.std.proofs.Common.{◌≡◌, ◌+◌, ◌++◌, ◌∙◌, ap, sym, subst, map, take, get_or}
use Rattle.std.proofs.Math.ListN.{set}
use Rattle.zerotrie_sets.specs.ManyInputs.{after_key, key_at, IsLeastAt}
use Rattle.zerotrie_sets.proofs.ManyLemmas.{listed_alone, listed_some, front_key, least_key_at}
use Rattle.zerotrie_sets.proofs.merge_all.list_least.Goals as goal

pub returns-then-alone : goal.returns-then-alone
returns-then-alone g c key least =
    let current = g.S.PairStream.current in
    let inputs = c.args.inputs.now in
    let at = c.args.at in
    let x = c.index-inputs-at.result in
    let y = c.list.new.self in
    let stream : y.stream ≡ x.stream = c.list.ensures.stream ∙ ap (λ i. i.stream) (sym c.index-inputs-at.is) in
    let is = listed_alone current key at inputs x y
    (subst (λ alone. IsLeastAt current key alone at inputs) c.if-alone.true least) c.index-inputs-at.is stream c.list.ensures.held in
    (is, ap (λ after. key_at current after at) is ∙ least_key_at current key c.args.alone at inputs least)

pub returns : goal.returns
returns g c key least =
    let current = g.S.PairStream.current in
    let inputs = c.args.inputs.now in
    let at = c.args.at in
    let x = c.index-inputs-at.result in
    let y = c.list.new.self in
    let z = c.index-front-at.result in
    let stream : y.stream ≡ x.stream = c.list.ensures.stream ∙ ap (λ i. i.stream) (sym c.index-inputs-at.is) in
    let split = c.split_at_mut-front.ensures in
    let same = c.key.ensures ∙ ap (λ i. (current i.stream).0) (sym c.index-front-at.is) ∙ front_key current key c.args.alone at inputs x y z least c.index-inputs-at.is stream
    (subst (λ front. z ≡ get_or front at z) split.front c.index-front-at.is) in
    let others = c.list_all.ensures ∙ ap (λ k. map (after_key current k) c.split_at_mut-front.result.1.now) same
    ∙ ap (map (after_key current key)) split.back in
    let is = ap (λ front. front ++ c.list_all.new.inputs) split.front
    ∙ ap (λ behind. take (at + 1) (set inputs at y) ++ behind) others
    ∙ listed_some current key c.args.alone at inputs x y least c.index-inputs-at.is stream c.list.ensures.held in
    (is, ap (λ after. key_at current after at) is ∙ least_key_at current key c.args.alone at inputs least)
