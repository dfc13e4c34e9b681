use Rattle.std.proofs.Common.{◌≡◌, ◌+◌, ◌<◌, ◌≤◌, ◌∷◌, ◌++◌, ◌∙◌, ℕ, [], Some, suc, refl, arith, sym, subst, length, reverse}
use Rattle.std.proofs.lemmas.Grind.{common_steps}
use Rattle.zerotrie_base.specs.Maps.{behind_all, residual}
use Rattle.zerotrie_base.specs.Texts.{Lists}
use Rattle.zerotrie_search.specs.Forks.{IsFork, NoEdge}
use Rattle.zerotrie_search.proofs.ForkLemmas.{entered, fork_over, takes_edge}
use Rattle.zerotrie_search.specs.Walks.{rooms}
use Rattle.zerotrie_search.proofs.NextLemmas.{found_room}
use Rattle.zerotrie_search.proofs.WalkLemmas.{rooms_kept}
use Rattle.zerotrie_search.proofs.StandLemmas.{behind_shorter, follows_edge, fork_opened, edge_no_bound, stands_above, edges_past, ends_climbed}
use Rattle.zerotrie_search.proofs.sorted.seek.past_branch.Goals as goal

pub returns-in_default-clause-goes : goal.returns-in_default-clause-goes
returns-in_default-clause-goes g c pairs bound f =
    let kind = g.K.ZeroTrieWithOptions.kind in
    let byte = c.args.byte in
    let more = c.args.more.now in
    let key = c.args.key.now.items in
    let fork = fork_opened f.text c.args.branch c.requires (behind_all key pairs) f.same c.open-fork.result byte c.open-fork.ensures.branch c.open-fork.ensures.room c.open-fork.ensures.left in
    let none : NoEdge (behind_all key pairs) byte = fork_over fork (c.in_default.ensures.takes (behind_all key pairs) fork.opens) in
    let gone : residual byte f.below ≡ [] = f.same byte ∙ none byte (omega arith) in (
      edge_no_bound f byte more refl gone,
      ends_climbed f c.climb.new.key.items (reverse c.climb.new.forks.items) c.in_ok-next.next
          (c.in_ok-next.ensures.arrives pairs (byte ∷ more) f.way (edges_past f byte more refl gone (λ e h. none e (omega (arith, h))))),
    )

pub returns-in_default-clause-shorter : goal.returns-in_default-clause-shorter
returns-in_default-clause-shorter g c =
    let old : ℕ = rooms (reverse c.args.forks.now.items) in
    found_room c.in_ok-next.next (rooms (reverse c.climb.new.forks.items)) old (length c.args.at.now + old) c.in_ok-next.ensures.room (omega arith)

pub returns-then-edge-byte-clause-shorter : goal.returns-then-edge-byte-clause-shorter
returns-then-edge-byte-clause-shorter g c =
    let b = c.args.branch in
    let room = c.in-Some.ensures.room in
    let whole = c.open-fork.ensures.room in
    let behind = behind_shorter g.K.ZeroTrieWithOptions.kind c.args.at.now b.edges b.width b.table.now b.behind.now c.requires in
    let kept = rooms_kept c.next.new.self (reverse c.args.forks.now.items) (reverse c.push.new.forks.items) c.in_ok-push.ensures.keeps in
    omega (arith, room, whole, behind, kept)

pub returns-else-edge-byte-clause-shorter : goal.returns-else-edge-byte-clause-shorter
returns-else-edge-byte-clause-shorter g c =
    let b = c.args.branch in
    let room = c.in-Some.ensures.room in
    let whole = c.open-fork.ensures.room in
    let behind = behind_shorter g.K.ZeroTrieWithOptions.kind c.args.at.now b.edges b.width b.table.now b.behind.now c.requires in
    let kept = rooms_kept c.next.new.self (reverse c.args.forks.now.items) (reverse c.push.new.forks.items) c.in_ok-push.ensures.keeps in
    omega (arith, room, whole, behind, kept)

pub returns-then-edge-byte-clause-goes : goal.returns-then-edge-byte-clause-goes
returns-then-edge-byte-clause-goes g c pairs bound f =
    let kind = g.K.ZeroTrieWithOptions.kind in
    let byte = c.args.byte in
    let key = c.args.key.now.items in
    let edge = c.in-Some.edge in
    let target = c.in-Some.target.now in
    let same : edge ≡ byte = c.if-edge-byte.true in
    let fork = fork_opened f.text c.args.branch c.requires (behind_all key pairs) f.same c.open-fork.result byte c.open-fork.ensures.branch c.open-fork.ensures.room c.open-fork.ensures.left in
    let len : c.len.result ≡ length key = grind (arith, common_steps) in
    let t = takes_edge fork c.next.new.self (Some (edge, c.in-Some.target)) (c.in-Some.ensures.takes (behind_all key pairs) fork.opens) in
    let p = c.in_ok-push.ensures in
    follows_edge f byte c.args.more.now c.push.new.key.items target (reverse c.push.new.forks.items) refl
    (subst (λ e. Lists kind target (residual e f.below)) same (subst (Lists kind target) (sym (f.same edge)) t.2)) (subst (λ e. c.push.new.key.items ≡ key ++ e ∷ []) same p.key)
    (p.forks kind pairs f.way (c.in-Some.ensures.depth ∙ c.open-fork.ensures.depth ∙ len) t.4)

pub returns-else-edge-byte-clause-goes : goal.returns-else-edge-byte-clause-goes
returns-else-edge-byte-clause-goes g c pairs bound f =
    let kind = g.K.ZeroTrieWithOptions.kind in
    let byte = c.args.byte in
    let more = c.args.more.now in
    let key = c.args.key.now.items in
    let key' = c.push.new.key.items in
    let forks' = reverse c.push.new.forks.items in
    let edge = c.in-Some.edge in
    let other = c.if-edge-byte.false in
    let fork = fork_opened f.text c.args.branch c.requires (behind_all key pairs) f.same c.open-fork.result byte c.open-fork.ensures.branch c.open-fork.ensures.room c.open-fork.ensures.left in
    let len : c.len.result ≡ length key = grind (arith, common_steps) in
    let t = takes_edge fork c.next.new.self (Some (edge, c.in-Some.target)) (c.in-Some.ensures.takes (behind_all key pairs) fork.opens) in
    let p = c.in_ok-push.ensures in
    let low = t.0 in
    let above : suc byte ≤ edge = omega (arith, low, other) in
    let gone : residual byte f.below ≡ [] = f.same byte ∙ t.1 byte (omega arith) (omega (arith, above)) in (
      edge_no_bound f byte more refl gone,
      stands_above f byte more refl gone key' c.in-Some.target.now forks'
          (entered kind pairs key (suc byte) edge c.in-Some.target.now key' forks' above (λ e h l. t.1 e (omega (arith, h)) l) t.2 t.3 p.key
          (p.forks kind pairs f.way (c.in-Some.ensures.depth ∙ c.open-fork.ensures.depth ∙ len) t.4)),
    )
