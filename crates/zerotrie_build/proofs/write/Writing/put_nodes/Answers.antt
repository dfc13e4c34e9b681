use Rattle.std.proofs.Common.{◌≡◌, rules, refl, [], ◌+◌, ap, arith, length}
use Rattle.zerotrie_build.specs.passes.Writing.{next_of}
use Rattle.zerotrie_build.proofs.WindowLemmas.NodeRuns.{lone_end, stopped}
use Rattle.zerotrie_build.proofs.MeasureLemmas.Slots.{at_end}
use Rattle.zerotrie_build.proofs.WriteLemmas.Fronts.{going_start, going_lone, going_front, open_bytes, room_lone, front_fits}
use Rattle.zerotrie_build.proofs.WriteLemmas.Puts.{grows, puts_then}
use Rattle.zerotrie_build.proofs.WriteLemmas.Slots.{opened}
use Rattle.zerotrie_build.proofs.WriteLemmas.Branches.{branch_slots, branch_windows, branch_lens, branch_numbers, branch_small, branch_room, branch_refused, front_branch, front_end}
use Rattle.zerotrie_build.proofs.write.Writing.put_nodes.Goals as goal

pub put_all-requires : goal.put_all-requires
put_all-requires g c =
    let o = (opened c.requires.kept.1).known in
    let room = room_lone c.in-Some.literals.now c.in-Some.value _ (going_start c.args.self.now o) o.stops o.within c.requires.keys c.in-Some.ensures.is (open_bytes o) c.requires.room in
    omega arith

pub put_value-requires : goal.put_value-requires
put_value-requires g c =
    let o = (opened c.requires.kept.1).known in
    let room = room_lone c.in-Some.literals.now c.in-Some.value _ (going_start c.args.self.now o) o.stops o.within c.requires.keys c.in-Some.ensures.is (open_bytes o) c.requires.room in
    let p = c.put_all.ensures in let at = grows p in let same = p.same in
    omega arith

pub returns-in-Some-clause-put : goal.returns-in-Some-clause-put
returns-in-Some-clause-put g c =
    let kind = g.K.ZeroTrieWithOptions.kind in
    let all = g.I.IndexedItems.pairs c.args.items in
    let w = c.args.window in
    let k = opened c.requires.kept.1 in
    let o = k.known in
    let literals = c.in-Some.literals.now in
    let lone = c.in-Some.ensures.is in
    let puts = puts_then c.put_all.ensures c.put_value.ensures.puts in
    let going = going_lone _ literals c.in-Some.value (going_start c.args.self.now o) o.stops o.within c.requires.keys lone c.put_value.ensures.spells puts in
    ([], refl, front_end k going (lone_end kind all w literals c.in-Some.value (w.depth + length literals) lone) [] refl)

pub put_front-rest-requires : goal.put_front-rest-requires
put_front-rest-requires g c = let o = opened c.requires.kept.1 in λ k. ((refl, tt), (c.requires.keys, ((o.cs, o.known), front_fits c.args.self.now o.known.within c.requires.keys o.known.ordered c.requires.room)))

pub returns-else-rest-clause-put : goal.returns-else-rest-clause-put
returns-else-rest-clause-put g c =
    let k = opened c.requires.kept.1 in
    let v = going_front k.known c.requires.keys c.put_front-rest.ensures.front c.put_front-rest.ensures.stops in
    let past = c.if-rest.false in
    ([], refl, front_end k v (at_end _ _ c.put_front-rest.result c.put_front-rest.ensures.stops (omega arith)) [] refl)

pub set-requires : goal.set-requires
set-requires g c =
    let k = opened c.requires.kept.1 in
    let v = going_front k.known c.requires.keys c.put_front-rest.ensures.front c.put_front-rest.ensures.stops in
    let step = stopped g.K.ZeroTrieWithOptions.kind (g.I.IndexedItems.pairs c.args.items) c.put_front-rest.result c.put_front-rest.ensures.stops c.if-rest.true in
    let inside = c.if-rest.true in
    let to = v.to_is in
    let within = k.known.within in
    λ k'. ((refl, tt), (omega arith, (omega arith, (c.put_front-rest.ensures.room step, (v.ordered, branch_slots k v step)))))

pub returns-in_err-set-clause-refused : goal.returns-in_err-set-clause-refused
returns-in_err-set-clause-refused g c =
    let kind = g.K.ZeroTrieWithOptions.kind in
    let all = g.I.IndexedItems.pairs c.args.items in
    let k = opened c.requires.kept.1 in
    let v = going_front k.known c.requires.keys c.put_front-rest.ensures.front c.put_front-rest.ensures.stops in
    let step = stopped g.K.ZeroTrieWithOptions.kind (g.I.IndexedItems.pairs c.args.items) c.put_front-rest.result c.put_front-rest.ensures.stops c.if-rest.true in
    let why = branch_refused c.in_err-set.field-0.0 k c.requires.ordered v step c.in_err-set.ensures.refused in
    search (why, rules)

pub overflow_add-lens : goal.overflow_add-lens
overflow_add-lens g c =
    let k = opened c.requires.kept.1 in
    let v = going_front k.known c.requires.keys c.put_front-rest.ensures.front c.put_front-rest.ensures.stops in
    let step = stopped g.K.ZeroTrieWithOptions.kind (g.I.IndexedItems.pairs c.args.items) c.put_front-rest.result c.put_front-rest.ensures.stops c.if-rest.true in
    let found = branch_windows k v step _ c.in_ok-set.ensures.parts c.in_ok-set.ensures.laid in
    let laid = found.1 in
    let lens = branch_lens k v step laid (length c.as_slice-numbers.result.now) (ap length c.as_slice-numbers.ensures.value) in
    let room = lens.1 in
    search (room, rules)

pub offset_bounds-input-slot : goal.offset_bounds-input-slot
offset_bounds-input-slot g c =
    let k = opened c.requires.kept.1 in
    let v = going_front k.known c.requires.keys c.put_front-rest.ensures.front c.put_front-rest.ensures.stops in
    let step = stopped g.K.ZeroTrieWithOptions.kind (g.I.IndexedItems.pairs c.args.items) c.put_front-rest.result c.put_front-rest.ensures.stops c.if-rest.true in
    let found = branch_windows k v step _ c.in_ok-set.ensures.parts c.in_ok-set.ensures.laid in
    let laid = found.1 in
    let lens = branch_lens k v step laid (length c.as_slice-numbers.result.now) (ap length c.as_slice-numbers.ensures.value) in
    let room = lens.1 in
    search (room, rules)

pub slice_bounds-lens-end : goal.slice_bounds-lens-end
slice_bounds-lens-end g c =
    let k = opened c.requires.kept.1 in
    let v = going_front k.known c.requires.keys c.put_front-rest.ensures.front c.put_front-rest.ensures.stops in
    let step = stopped g.K.ZeroTrieWithOptions.kind (g.I.IndexedItems.pairs c.args.items) c.put_front-rest.result c.put_front-rest.ensures.stops c.if-rest.true in
    let found = branch_windows k v step _ c.in_ok-set.ensures.parts c.in_ok-set.ensures.laid in
    let laid = found.1 in
    let lens = branch_lens k v step laid (length c.as_slice-numbers.result.now) (ap length c.as_slice-numbers.ensures.value) in
    let room = lens.1 in
    search (room, rules)

pub put_branch-requires-clause-within : goal.put_branch-requires-clause-within
put_branch-requires-clause-within g c =
    let k = opened c.requires.kept.1 in
    let v = going_front k.known c.requires.keys c.put_front-rest.ensures.front c.put_front-rest.ensures.stops in
    let step = stopped g.K.ZeroTrieWithOptions.kind (g.I.IndexedItems.pairs c.args.items) c.put_front-rest.result c.put_front-rest.ensures.stops c.if-rest.true in
    let found = branch_windows k v step _ c.in_ok-set.ensures.parts c.in_ok-set.ensures.laid in
    let laid = found.1 in
    let lens = branch_lens k v step laid (length c.as_slice-numbers.result.now) (ap length c.as_slice-numbers.ensures.value) in
    branch_numbers k.known laid _ _ lens.0 c.as_slice-numbers.ensures.value

pub put_branch-requires-clause-small : goal.put_branch-requires-clause-small
put_branch-requires-clause-small g c =
    let k = opened c.requires.kept.1 in
    let v = going_front k.known c.requires.keys c.put_front-rest.ensures.front c.put_front-rest.ensures.stops in
    let step = stopped g.K.ZeroTrieWithOptions.kind (g.I.IndexedItems.pairs c.args.items) c.put_front-rest.result c.put_front-rest.ensures.stops c.if-rest.true in
    let found = branch_windows k v step _ c.in_ok-set.ensures.parts c.in_ok-set.ensures.laid in
    let laid = found.1 in
    let lens = branch_lens k v step laid (length c.as_slice-numbers.result.now) (ap length c.as_slice-numbers.ensures.value) in
    branch_small k.known laid _ _ lens.0 c.as_slice-numbers.ensures.value

pub put_branch-requires-clause-room : goal.put_branch-requires-clause-room
put_branch-requires-clause-room g c =
    let k = opened c.requires.kept.1 in
    let v = going_front k.known c.requires.keys c.put_front-rest.ensures.front c.put_front-rest.ensures.stops in
    let step = stopped g.K.ZeroTrieWithOptions.kind (g.I.IndexedItems.pairs c.args.items) c.put_front-rest.result c.put_front-rest.ensures.stops c.if-rest.true in
    let found = branch_windows k v step _ c.in_ok-set.ensures.parts c.in_ok-set.ensures.laid in
    let laid = found.1 in
    let lens = branch_lens k v step laid (length c.as_slice-numbers.result.now) (ap length c.as_slice-numbers.ensures.value) in
    branch_room k v step c.requires.room laid _ _ _ c.as_slice.ensures.value lens.0 c.as_slice-numbers.ensures.value

pub returns-in_ok-set-clause-put : goal.returns-in_ok-set-clause-put
returns-in_ok-set-clause-put g c =
    let k = opened c.requires.kept.1 in
    let v = going_front k.known c.requires.keys c.put_front-rest.ensures.front c.put_front-rest.ensures.stops in
    let step = stopped g.K.ZeroTrieWithOptions.kind (g.I.IndexedItems.pairs c.args.items) c.put_front-rest.result c.put_front-rest.ensures.stops c.if-rest.true in
    let found = branch_windows k v step _ c.in_ok-set.ensures.parts c.in_ok-set.ensures.laid in
    let laid = found.1 in
    let lens = branch_lens k v step laid (length c.as_slice-numbers.result.now) (ap length c.as_slice-numbers.ensures.value) in
    let kind = g.K.ZeroTrieWithOptions.kind in
    let slots = c.args.input.slots.now in
    let slot = c.args.slot in
    let ws = c.set.new.self.windows.items in
    let numbers = c.set.new.self.numbers.items in
    let next = next_of kind slots slot ws numbers in
    let next_is : next ≡ next_of kind slots slot k.cs numbers = ap (λ x. next_of kind slots slot x numbers) found.0 in (
      next,
      c.in_ok-set.ensures.pending,
      front_branch _ k v step laid _ _ _ c.as_slice.ensures.value lens.0 c.as_slice-numbers.ensures.value c.put_branch.ensures next next_is,
    )
