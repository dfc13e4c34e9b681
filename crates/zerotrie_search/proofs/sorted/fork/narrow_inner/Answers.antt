use Rattle.std.proofs.Common.{◌≡◌, ◌-◌, arith, length, refl, reverse, subst, suc, sym}
use Rattle.std.proofs.lemmas.Grind.{common_steps}
use Rattle.zerotrie_search.specs.Walks.{Narrows}
use Rattle.zerotrie_search.specs.declared.sorted.fork.Fork.{Fork}
use Rattle.zerotrie_search.proofs.WalkLemmas.{narrows_over, narrows_set}
use Rattle.zerotrie_search.proofs.sorted.fork.narrow_inner.Goals as goal

pub returns-then-is_over : goal.returns-then-is_over
returns-then-is_over g c =
    let f = c.index.result.now in
    let narrow : Fork = record { branch = f.branch; left = c.intersect-fork.result; depth = f.depth; room = f.room } in
    let forks = c.args.forks.now.items in
    let wanted = c.args.wanted.now in
    let len : c.len-count.result ≡ length forks = grind (arith, common_steps) in
    let some = c.if-count-eq0.false in
    let long : length forks ≡ suc (c.len-count.result - 1) = omega (arith, len, some) in
    subst (λ fs. Narrows c.args.depth wanted (reverse forks) (reverse fs)) (sym c.truncate.ensures.items)
    (narrows_over c.args.depth wanted forks (c.len-count.result - 1) long f narrow c.index.ensures c.if-fork-depth.false (record { depth = refl; branch = refl; room = refl; left = c.intersect-fork.ensures })
    (c.is_over.ensures.0 c.if-is_over.true))

pub returns-else-is_over : goal.returns-else-is_over
returns-else-is_over g c =
    let f = c.index.result.now in
    let narrow : Fork = record { branch = f.branch; left = c.intersect-fork.result; depth = f.depth; room = f.room } in
    let forks = c.args.forks.now.items in
    let len : c.len-count.result ≡ length forks = grind (arith, common_steps) in
    let some = c.if-count-eq0.false in
    let long : length forks ≡ suc (c.len-count.result - 1) = omega (arith, len, some) in
    narrows_set c.args.depth c.args.wanted.now forks (c.len-count.result - 1) long f narrow c.index.ensures c.if-fork-depth.false (record { depth = refl; branch = refl; room = refl; left = c.intersect-fork.ensures })
    (λ over. (let here = c.is_over.ensures.1 over in let off = c.if-is_over.false in cc))
