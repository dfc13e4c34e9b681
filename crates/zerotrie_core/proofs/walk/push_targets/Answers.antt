use Rattle.std.proofs.Common.{◌+◌, ◌++◌, ◌∷◌, [], ◌∙◌, length, map, refl, sym, ap, arith}
use Rattle.std.proofs.lemmas.List.{append-nil, map-append}
use Rattle.zerotrie_core.specs.walk.Visits.{target_part}
use Rattle.zerotrie_core.specs.walk.Seen.{part_of}
use Rattle.zerotrie_core.proofs.WalkLemmas.Visits.{target_read, next_target, part_added, part_is, parts_fall}
use Rattle.zerotrie_core.proofs.walk.push_targets.Goals as goal

pub loop-index-preserved : goal.loop-index-preserved
loop-index-preserved g c =
    let b = c.args.branch in
    let at = part_of c.args.at in
    let i = c.loop-index.index in
    let t = c.in-Some.target in
    let read = target_read at b.edges b.width b.behind.now i t c.loop-index-test.true c.in-Some.ensures in
    let begins = c.loop-index.invariant.begins c.loop-index-test.true in
    let len = ap (λ l. length l) c.targets.ensures in
    let added = ap (λ ps. map part_of ps) c.in_ok-push.ensures.items ∙ map-append part_of c.loop-index.parts.items _
    ∙ ap (λ p. map part_of c.loop-index.parts.items ++ p ∷ []) (c.below_edge.ensures ∙ part_is at b.edges b.width b.behind.now i _ _ t.now (omega arith) c.edge_at.ensures read.is) in
    record {
      within = omega (arith, read.within, begins);
      begins = λ h. next_target b.edges b.width b.behind.now i (i + 1) c.loop-index.begin _ refl h begins read.ends;
      same = part_added (map part_of c.loop-index.parts.items) (map part_of c.push.new.self.items) _ _ _ (target_part at b.edges b.width b.behind.now i) read.first added c.loop-index.invariant.same;
    }

pub returns-in_default : goal.returns-in_default
returns-in_default g c =
    let b = c.args.branch in
    let none = parts_fall (part_of c.args.at) b.edges b.width b.behind.now c.loop-index.index c.loop-index-test.true c.in_default.ensures in
    sym (append-nil (map part_of c.loop-index.parts.items)) ∙ ap (λ ps. map part_of c.loop-index.parts.items ++ ps) (sym none) ∙ c.loop-index.invariant.same
