use Rattle.std.proofs.Common.{◌≡◌, ◌∙◌, length, vec_len, map, ap, arith, length-append}
use Rattle.std.proofs.lemmas.List.{length-map}
use Rattle.std.proofs.lemmas.Grind.{common_steps}
use Rattle.zerotrie_core.specs.Shapes.{shape}
use Rattle.zerotrie_core.specs.walk.Visits.{target_parts}
use Rattle.zerotrie_core.specs.walk.Seen.{part_of}
use Rattle.zerotrie_core.proofs.WalkLemmas.Visits.{behind_within, turned}
use Rattle.zerotrie_core.proofs.walk.push_behind.Goals as goal

pub after-requires : goal.after-requires
after-requires g c = let h = rw c.in-Value.is at (behind_within c.requires.0 c.args.at.bytes.now (shape c.args.node) c.requires.1) in omega arith

pub after-requires-in-Span : goal.after-requires-in-Span
after-requires-in-Span g c = let h = rw c.in-Span.is at (behind_within c.requires.0 c.args.at.bytes.now (shape c.args.node) c.requires.1) in omega arith

pub push_targets-requires : goal.push_targets-requires
push_targets-requires g c = rw c.in-Branch.is at (behind_within c.requires.0 c.args.at.bytes.now (shape c.args.node) c.requires.1)

pub reverse_from-requires : goal.reverse_from-requires
reverse_from-requires g c =
    let b = c.in-Branch.branch in
    let len : c.len-len.result ≡ length c.args.parts.now.items = grind (arith, common_steps) in
    let now : vec_len c.push_targets.new.parts ≡ length c.push_targets.new.parts.items = grind (arith, common_steps) in
    let all = ap (λ l. length l) c.in_ok-push_targets-in-Branch.ensures
    ∙ length-append (map part_of c.args.parts.now.items) (target_parts (part_of c.args.at) b.edges b.width b.behind.now b.edges) in
    let old = length-map c.args.parts.now.items part_of in
    let new = length-map c.push_targets.new.parts.items part_of in
    omega arith

pub returns-in_ok-push_targets-in-Branch : goal.returns-in_ok-push_targets-in-Branch
returns-in_ok-push_targets-in-Branch g c =
    let b = c.in-Branch.branch in
    rw c.in-Branch.is
    (turned part_of c.args.parts.now.items c.push_targets.new.parts.items c.reverse_from.new.parts.items (target_parts (part_of c.args.at) b.edges b.width b.behind.now b.edges) c.len-len.result
    c.in_ok-push_targets-in-Branch.ensures (grind (arith, common_steps)) c.reverse_from.ensures)
