use Rattle.std.proofs.Common.{◌≡◌, length, map, reverse, refl, sym, ap, subst, arith, inl}
use Rattle.std.proofs.lemmas.Grind.{common_steps}
use Rattle.std.proofs.lemmas.List.{nil_from_length}
use Rattle.std.specs.Option.{option_map}
use Rattle.zerotrie_core.specs.Shapes.{shape}
use Rattle.zerotrie_core.specs.Faults.{Fault}
use Rattle.zerotrie_core.specs.Faults.FaultIn.{here}
use Rattle.zerotrie_core.specs.walk.Seen.{part_of}
use Rattle.zerotrie_core.specs.fault_search.Rules.{expected_next}
use Rattle.zerotrie_core.proofs.WellFormedLemmas.Targets.{text_well}
use Rattle.zerotrie_core.proofs.FaultLemmas.Rules.{read_begins, no_fault}
use Rattle.zerotrie_core.proofs.FaultLemmas.Rows.{work}
use Rattle.zerotrie_core.proofs.FaultLemmas.Search.{Searched, popped, searched_next, next_less, searched_fault, searched_within}
use Rattle.zerotrie_core.proofs.faults.first_fault.Goals as goal

pub returns-in-Some-front_fault-clause-some : goal.returns-in-Some-front_fault-clause-some
returns-in-Some-front_fault-clause-some g c =
    let kind = g.K.ZeroTrieWithOptions.kind in
    let bytes = c.args.bytes.now in
    let e = c.loop-part.expected in
    let rest = c.pop.new.self.items in
    let so_far = subst (Searched kind bytes e) (popped c.loop-part.parts.items rest c.in-Some.part c.in-Some.ensures.items) c.loop-part.invariant in
    searched_fault kind bytes e (part_of c.in-Some.part) (map part_of (reverse rest)) (record { place = c.in-Some.part.place; cause = c.in-Some-front_fault.cause }) so_far refl c.in-Some-front_fault.ensures.some

pub returns-in-Some-front_fault-clause-within : goal.returns-in-Some-front_fault-clause-within
returns-in-Some-front_fault-clause-within g c =
    let kind = g.K.ZeroTrieWithOptions.kind in
    let bytes = c.args.bytes.now in
    let e = c.loop-part.expected in
    let rest = c.pop.new.self.items in
    let so_far = subst (Searched kind bytes e) (popped c.loop-part.parts.items rest c.in-Some.part c.in-Some.ensures.items) c.loop-part.invariant in
    searched_within kind bytes e (part_of c.in-Some.part) (map part_of (reverse rest)) so_far

pub loop-part-smaller : goal.loop-part-smaller
loop-part-smaller g c =
    let kind = g.K.ZeroTrieWithOptions.kind in
    let at = part_of c.in-Some.part in
    let node = option_map shape c.first_node-node.result in
    let rest = map part_of (reverse c.pop.new.self.items) in
    let before = ap work (popped c.loop-part.parts.items c.pop.new.self.items c.in-Some.part c.in-Some.ensures.items) in
    let now = ap work c.in_ok-push_next.ensures in
    let less = next_less kind c.loop-part.expected at node rest c.first_node-node.ensures.node c.in_default-front_fault.ensures.none in
    omega arith

pub loop-part-preserved : goal.loop-part-preserved
loop-part-preserved g c =
    let kind = g.K.ZeroTrieWithOptions.kind in
    let bytes = c.args.bytes.now in
    let e = c.loop-part.expected in
    let at = part_of c.in-Some.part in
    let node = option_map shape c.first_node-node.result in
    let rest = c.pop.new.self.items in
    let so_far = subst (Searched kind bytes e) (popped c.loop-part.parts.items rest c.in-Some.part c.in-Some.ensures.items) c.loop-part.invariant in
    let next = searched_next kind bytes e at node (map part_of (reverse rest)) so_far c.first_node-node.ensures.node (read_begins kind at.bytes c.first_node-node.result c.first_node-node.ensures.begins) c.in_default-front_fault.ensures.none in
    subst (λ x. Searched kind bytes x (map part_of (reverse c.push_next.new.parts.items))) (sym c.expected_next-expected.ensures)
    (subst (Searched kind bytes (expected_next node)) (sym c.in_ok-push_next.ensures) next)

pub returns-in-Some-front_fault-clause-none : goal.returns-in-Some-front_fault-clause-none
returns-in-Some-front_fault-clause-none g c =
    let kind = g.K.ZeroTrieWithOptions.kind in
    let bytes = c.args.bytes.now in
    let e = c.loop-part.expected in
    let so_far = subst (Searched kind bytes e) (popped c.loop-part.parts.items c.pop.new.self.items c.in-Some.part c.in-Some.ensures.items) c.loop-part.invariant in
    let f : Fault = record { place = c.in-Some.part.place; cause = c.in-Some-front_fault.cause } in
    (λ none. absurd (cc), λ well. absurd (no_fault kind bytes f well (so_far.sound f (inl (here refl c.in-Some-front_fault.ensures.some)))))

pub returns-clause-none : goal.returns-clause-none
returns-clause-none g c =
    let kind = g.K.ZeroTrieWithOptions.kind in
    let bytes = c.args.bytes.now in
    let len : length c.loop-part.parts.items ≡ 0 = grind (arith, common_steps) in
    let none = ap (λ ps. map part_of (reverse ps)) (nil_from_length c.loop-part.parts.items len) in
    (λ _. text_well (omega arith) ((subst (Searched kind bytes c.loop-part.expected) none c.loop-part.invariant).back tt), λ _. refl)
