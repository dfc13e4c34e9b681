use Rattle.std.proofs.Common.{arith}
use Rattle.std.proofs.lemmas.List.{nil_from_length}
use Rattle.std.specs.List.{slice_index}
use Rattle.zerotrie_core.specs.Shapes.{branch_shape}
use Rattle.zerotrie_base.proofs.NodeLemmas.Nodes.{branch_shorter}
use Rattle.zerotrie_core.proofs.ReaderLemmas.Edges.{follow_goes, follow_some, follow_stops, target_shorter}
use Rattle.zerotrie_core.proofs.ReaderLemmas.LookUps.{branch_ends, node_ends, node_goes}
use Rattle.zerotrie_core.proofs.reader.into_target.Goals as goal

pub returns-in_default : goal.returns-in_default
returns-in_default g c =
    let b = c.args.branch in
    branch_ends g.K.ZeroTrieWithOptions.kind b.edges b.width b.table.now b.behind.now c.args.key.now (nil_from_length c.args.key.now c.in_default.ensures.cases)

pub returns-in_default-place_of : goal.returns-in_default-place_of
returns-in_default-place_of g c =
    let kind = g.K.ZeroTrieWithOptions.kind in
    let b = c.args.branch in
    node_ends kind (branch_shape b) c.in-Some.byte.now c.args.key.now c.in-Some.after.now c.in-Some.ensures.cases.0
    (follow_stops kind b.edges b.width b.table.now b.behind.now c.in-Some.byte.now c.in_default-place_of.ensures.none)

pub returns-in-None : goal.returns-in-None
returns-in-None g c =
    let kind = g.K.ZeroTrieWithOptions.kind in
    let b = c.args.branch in
    let place = c.in-Some-place_of in
    node_ends kind (branch_shape b) c.in-Some.byte.now c.args.key.now c.in-Some.after.now c.in-Some.ensures.cases.0
    (follow_some kind b.edges b.width b.table.now b.behind.now c.in-Some.byte.now place.place place.ensures.some.0 c.in-None.ensures)

pub returns-in-Some-target_at : goal.returns-in-Some-target_at
returns-in-Some-target_at g c =
    let kind = g.K.ZeroTrieWithOptions.kind in
    let b = c.args.branch in
    let place = c.in-Some-place_of in
    let target = c.in-Some-target_at in
    let short = target_shorter b.edges b.width b.behind.now place.place target.target target.ensures in
    node_goes kind (branch_shape b) c.in-Some.byte.now (slice_index b.behind.now place.place) c.args.key.now c.in-Some.after.now target.target.now c.in-Some.ensures.cases.0
    (follow_goes kind b.edges b.width b.table.now b.behind.now c.in-Some.byte.now place.place target.target place.ensures.some target.ensures)
    (λ bytes begins. (let less = branch_shorter kind b.edges b.width b.table.now b.behind.now bytes begins in omega (arith, less, short)))
