use Rattle.std.proofs.Common.{◌≡◌, ◌-◌, ◌∙◌, arith, ap, length, refl, reverse, subst, suc, sym, take}
use Rattle.std.proofs.lemmas.Grind.{common_steps}
use Rattle.zerotrie_search.specs.Walks.{Climbs}
use Rattle.zerotrie_search.proofs.WalkLemmas.{walks_open, walks_over, over_keys}
use Rattle.zerotrie_search.proofs.sorted.walk.enter_next.Goals as goal

pub returns-in_default-clause-walks : goal.returns-in_default-clause-walks
returns-in_default-clause-walks g c pairs value w =
    let kind = g.K.ZeroTrieWithOptions.kind in
    let key = c.args.key.now.items in
    let forks = reverse c.args.forks.now.items in
    let rest = c.args.rest.now.now in
    walks_over kind pairs key forks
    (subst (Climbs kind pairs key forks c.climb.new.key.items (reverse c.climb.new.forks.items)) c.in_default.is (c.in_ok-target.ensures.climbs pairs (suc (length key)) (walks_open kind pairs key rest forks c.requires w)))
    rest c.requires

pub returns-clause-walks : goal.returns-clause-walks
returns-clause-walks g c pairs value w =
    let kind = g.K.ZeroTrieWithOptions.kind in
    let key = c.args.key.now.items in
    let forks = reverse c.args.forks.now.items in
    let rest = c.args.rest.now.now in
    let climbs = subst (Climbs kind pairs key forks c.climb.new.key.items (reverse c.climb.new.forks.items)) c.in-Some.is (c.in_ok-target.ensures.climbs pairs (suc (length key)) (walks_open kind pairs key rest forks c.requires w)) in
    (climbs.0, λ q v e. over_keys kind key rest forks q c.requires ∙ climbs.1 q v e)

pub returns-clause-steps : goal.returns-clause-steps
returns-clause-steps g c value =
    let kept = rw c.in-Some.is at c.in_ok-target.ensures.kept in
    let less = rw c.in-Some.is at c.in_ok-target.ensures.room in
    let len : c.len.result ≡ length c.climb.new.key.items = grind (arith, common_steps) in
    let is : c.saturating_sub.result ≡ length c.climb.new.key.items - 1 = c.saturating_sub.ensures ∙ ap (λ n. n - 1) len in
    (subst (λ n. take n c.climb.new.key.items ≡ take n c.args.key.now.items) (sym is) kept, refl, less)
