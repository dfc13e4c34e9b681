use Rattle.std.proofs.Common.{◌≡◌, ◌∷◌, ◌++◌, ◌∙◌, [], Some, ap, arith, length, reverse, subst, suc, sym, take}
use Rattle.std.proofs.lemmas.Grind.{common_steps}
use Rattle.std.proofs.lemmas.List.{nil_from_length}
use Rattle.zerotrie_base.specs.Maps.{behind_all}
use Rattle.zerotrie_search.specs.Forks.{AreForks}
use Rattle.zerotrie_search.specs.Walks.{AreOpen, DropsOver, Keeps, rooms}
use Rattle.zerotrie_search.proofs.ForkLemmas.{climb_none, climbed, entered, takes_edge, way_front}
use Rattle.zerotrie_search.proofs.NextLemmas.{forks_kept}
use Rattle.zerotrie_search.proofs.WalkLemmas.{climbs_to, keeps_front, last_first, set_first, rooms_kept}
use Rattle.zerotrie_search.proofs.sorted.fork.climb.Goals as goal

pub returns-in_default-clause-arrives : goal.returns-in_default-clause-arrives
returns-in_default-clause-arrives g c pairs bound on none =
    let kind = g.K.ZeroTrieWithOptions.kind in
    let key = c.args.key.now.items in
    let len : c.len.result ≡ length c.args.forks.now.items = grind (arith, common_steps) in
    let small = c.in_default.ensures in
    climb_none kind pairs key bound none (subst (λ fs. AreForks kind pairs key (reverse fs)) (nil_from_length c.args.forks.now.items (omega (arith, len, small))) on)

pub returns-in_default-next-clause-climbs : goal.returns-in_default-next-clause-climbs
returns-in_default-next-clause-climbs g c pairs limit on =
    let kind = g.K.ZeroTrieWithOptions.kind in
    let key = c.args.key.now.items in
    let forks = c.args.forks.now.items in
    let len : c.len.result ≡ length forks = grind (arith, common_steps) in
    let one = c.in-Some.ensures in
    let f = c.index_mut.result.now in
    let is = last_first forks c.in-Some.inner f (omega (arith, len, one)) c.index_mut.ensures.value in
    let opened = subst (AreOpen kind pairs key limit) is on in
    absurd {A = reverse forks ≡ []} (opened.0.some (c.in_default-next.ensures.takes (behind_all (take f.depth key) pairs) opened.0.opens))

pub returns-in_default-next-clause-arrives : goal.returns-in_default-next-clause-arrives
returns-in_default-next-clause-arrives g c pairs bound on none =
    let kind = g.K.ZeroTrieWithOptions.kind in
    let key = c.args.key.now.items in
    let forks = c.args.forks.now.items in
    let len : c.len.result ≡ length forks = grind (arith, common_steps) in
    let one = c.in-Some.ensures in
    let f = c.index_mut.result.now in
    let is = last_first forks c.in-Some.inner f (omega (arith, len, one)) c.index_mut.ensures.value in
    let way = subst (AreForks kind pairs key) is on in
    absurd (way.0.some (c.in_default-next.ensures.takes (behind_all way.0.front pairs) way.0.left.opens))

pub returns-clause-room : goal.returns-clause-room
returns-clause-room g c =
    let forks = c.args.forks.now.items in
    let inner = c.in-Some.inner in
    let len : c.len.result ≡ length forks = grind (arith, common_steps) in
    let one = c.in-Some.ensures in
    let long : length forks ≡ suc inner = omega (arith, len, one) in
    let after = reverse c.drop_over.new.forks.items in
    let kept = subst (λ fs. DropsOver fs after) (set_first forks inner c.next.new.self long) c.drop_over.ensures in
    let less = rooms_kept c.next.new.self (reverse (take inner forks)) after kept in
    let all = ap rooms (last_first forks inner c.index_mut.result.now long c.index_mut.ensures.value) in
    let room = c.in-Some-next.ensures.room in
    omega (arith, less, all, room)

pub returns-clause-kept : goal.returns-clause-kept
returns-clause-kept g c = keeps_front c.args.key.now.items c.index.result.now.depth c.truncate.new.self.items c.push.new.self.items c.in-Some-next.edge c.truncate.ensures.items c.in_ok-push.ensures.items

pub returns-clause-climbs : goal.returns-clause-climbs
returns-clause-climbs g c pairs limit on =
    let kind = g.K.ZeroTrieWithOptions.kind in
    let key = c.args.key.now.items in
    let forks = c.args.forks.now.items in
    let inner = c.in-Some.inner in
    let len : c.len.result ≡ length forks = grind (arith, common_steps) in
    let one = c.in-Some.ensures in
    let long : length forks ≡ suc inner = omega (arith, len, one) in
    let f = c.index_mut.result.now in
    let is = last_first forks inner f long c.index_mut.ensures.value in
    let same : c.index.result.now ≡ f = (let both = sym (last_first forks inner c.index.result.now long c.index.ensures) ∙ is in cc) in
    let after = reverse c.drop_over.new.forks.items in
    let kept = subst (λ fs. DropsOver fs after) (set_first forks inner c.next.new.self long) c.drop_over.ensures in
    climbs_to kind pairs key limit (reverse forks) f (reverse (take inner forks)) is on c.truncate.new.self.items (c.truncate.ensures.items ∙ ap (λ x. take x.depth key) same) c.push.new.self.items after (Some c.in-Some-next.target)
    (λ opened. record {
      edge = c.in-Some-next.edge;
      after = c.next.new.self;
      takes = c.in-Some-next.ensures.takes (behind_all (take f.depth key) pairs) opened;
      depth = c.in-Some-next.ensures.depth;
      key_is = c.in_ok-push.ensures.items;
      keeps = kept;
    })

pub returns-clause-arrives : goal.returns-clause-arrives
returns-clause-arrives g c pairs bound on none =
    let kind = g.K.ZeroTrieWithOptions.kind in
    let key = c.args.key.now.items in
    let forks = c.args.forks.now.items in
    let inner = c.in-Some.inner in
    let len : c.len.result ≡ length forks = grind (arith, common_steps) in
    let one = c.in-Some.ensures in
    let long : length forks ≡ suc inner = omega (arith, len, one) in
    let f = c.index_mut.result.now in
    let outer = reverse (take inner forks) in
    let is = last_first forks inner f long c.index_mut.ensures.value in
    let same : c.index.result.now ≡ f = (let both = sym (last_first forks inner c.index.result.now long c.index.ensures) ∙ is in cc) in
    let after = reverse c.drop_over.new.forks.items in
    let kept : Keeps c.next.new.self outer after = subst (λ fs. DropsOver fs after) (set_first forks inner c.next.new.self long) c.drop_over.ensures in
    let way = subst (AreForks kind pairs key) is on in
    let at = way.0 in
    let front = c.truncate.ensures.items ∙ ap (λ x. take x.depth key) same ∙ way_front kind pairs key f at in
    let key_is = c.in_ok-push.ensures.items ∙ ap (λ k. k ++ c.in-Some-next.edge ∷ []) front in
    let taken = c.in-Some-next.ensures.takes (behind_all at.front pairs) at.left.opens in
    let t = takes_edge at.left c.next.new.self (Some (c.in-Some-next.edge, c.in-Some-next.target)) taken in
    let on = forks_kept kind pairs outer at.front c.in-Some-next.edge c.next.new.self after way.1 (c.in-Some-next.ensures.depth ∙ at.depth) t.4 kept in
    climbed kind pairs key bound none f outer way c.push.new.self.items after (Some c.in-Some-next.target)
    (entered kind pairs at.front (suc at.byte) c.in-Some-next.edge c.in-Some-next.target.now c.push.new.self.items after t.0 t.1 t.2 t.3 key_is (subst (λ k. AreForks kind pairs k after) (sym key_is) on))
