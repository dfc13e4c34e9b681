use Rattle.std.proofs.Common.{rules, ◌≡◌, ◌≢◌, ◌+◌, ◌-◌, ◌*◌, ◌<◌, ◌^◌, List, map, length, take, drop, sym, ap, ◌∙◌, subst, arith}
use Rattle.std.specs.List.Sorted.{IsStrictlyIncreasing}
use Rattle.zerotrie_base.specs.Refusals.{IsTableRefusal}
use Rattle.zerotrie_base.specs.Kind.{is_hashed}
use Rattle.zerotrie_base.specs.Causes.{AreCrooked}
use Rattle.zerotrie_base.specs.declared.error.ZeroTrieBuildError.TheVariants.{CouldNotSolvePerfectHash, OutOfMemory}
use Rattle.zerotrie_build.specs.declared.windows.Window.{Window}
use Rattle.zerotrie_build.specs.passes.Windows.{edge_of}
use Rattle.zerotrie_build.specs.passes.Measured.{TargetWindows}
use Rattle.zerotrie_build.specs.passes.Writing.{edge_no, IsLayout}
use Rattle.zerotrie_build.proofs.WriteLemmas.Layouts.{branch_hashed_laid, branch_sorted_laid, numbers_within, hashed_up, crooked}
use Rattle.zerotrie_build.proofs.WriteLemmas.Puts.{count_map}
use Rattle.zerotrie_build.proofs.WriteLemmas.Slots.{parts_same, ends_room, branch_known, branch_hashed, branch_within}
use Rattle.zerotrie_build.proofs.branch.Layout.set.Goals as goal

pub set_hashed-requires : goal.set_hashed-requires
set_hashed-requires g c =
    let count : c.len-edges.result ≡ length c.set_sorted.new.self.windows.items = (let n = c.len-edges.ensures in let m = c.set_sorted.new.self.windows.ok in omega arith) in
    let k = branch_known c.requires.slots _ c.len-edges.result c.in_ok-set_sorted.ensures.parts count in
    let es = map (edge_of (g.I.IndexedItems.pairs c.args.items)) c.set_sorted.new.self.windows.items in
    let table : c.set_sorted.new.self.table.items ≡ es = c.in_ok-set_sorted.ensures.table in
    subst IsStrictlyIncreasing (sym table) (hashed_up g.K.ZeroTrieWithOptions.kind c.len-edges.result es (sym c.is_hashed.ensures ∙ c.if-is_hashed.true) k.3)

pub returns-in_err-set_hashed-clause-refused : goal.returns-in_err-set_hashed-clause-refused
returns-in_err-set_hashed-clause-refused g c =
    let kind = g.K.ZeroTrieWithOptions.kind in
    let all = g.I.IndexedItems.pairs c.args.items in
    let ws = c.set_sorted.new.self.windows.items in
    let n = c.len-edges.result in
    let e = c.in_err-set_hashed.field-0.0 in
    let count : n ≡ length ws = (let n = c.len-edges.ensures in let m = c.set_sorted.new.self.windows.ok in omega arith) in
    let refused = subst (λ x. IsTableRefusal x e) c.in_ok-set_sorted.ensures.table c.in_err-set_hashed.ensures.refused in
    let why : e ≢ OutOfMemory → (e ≡ CouldNotSolvePerfectHash) × ((cs : List Window) → TargetWindows all c.args.window cs → AreCrooked kind (map (edge_of all) cs)) =
    λ some. (let r = crooked kind n (map (edge_of all) ws) e (sym c.is_hashed.ensures ∙ c.if-is_hashed.true) (count_map (edge_of all) ws ∙ sym count) refused some in
    (r.0, λ cs p. subst (λ x. AreCrooked kind (map (edge_of all) x)) (parts_same all c.args.window ws cs c.in_ok-set_sorted.ensures.parts p) r.1)) in
    search (why, rules)

pub overflow_add-end : goal.overflow_add-end
overflow_add-end g c =
    let count : c.len-edges.result ≡ length c.set_sorted.new.self.windows.items = (let n = c.len-edges.ensures in let m = c.set_sorted.new.self.windows.ok in omega arith) in
    let h = branch_hashed c.requires.slots _ c.len-edges.result c.in_ok-set_sorted.ensures.parts count (sym c.is_hashed.ensures ∙ c.if-is_hashed.true) in
    let room = h.room in
    search (room, rules)

pub overflow_add-slot : goal.overflow_add-slot
overflow_add-slot g c =
    let count : c.len-edges.result ≡ length c.set_sorted.new.self.windows.items = (let n = c.len-edges.ensures in let m = c.set_sorted.new.self.windows.ok in omega arith) in
    let room = branch_within c.requires.slots _ c.len-edges.result c.in_ok-set_sorted.ensures.parts count in
    search (room, rules)

pub offset_bounds-slots-slot : goal.offset_bounds-slots-slot
offset_bounds-slots-slot g c =
    let count : c.len-edges.result ≡ length c.set_sorted.new.self.windows.items = (let n = c.len-edges.ensures in let m = c.set_sorted.new.self.windows.ok in omega arith) in
    let room = branch_within c.requires.slots _ c.len-edges.result c.in_ok-set_sorted.ensures.parts count in
    search (room, rules)

pub slice_bounds-push_hashed-end : goal.slice_bounds-push_hashed-end
slice_bounds-push_hashed-end g c =
    let count : c.len-edges.result ≡ length c.set_sorted.new.self.windows.items = (let n = c.len-edges.ensures in let m = c.set_sorted.new.self.windows.ok in omega arith) in
    let h = branch_hashed c.requires.slots _ c.len-edges.result c.in_ok-set_sorted.ensures.parts count (sym c.is_hashed.ensures ∙ c.if-is_hashed.true) in
    let room = h.room in
    search (room, rules)

pub push_hashed-requires-clause-room : goal.push_hashed-requires-clause-room
push_hashed-requires-clause-room g c =
    let n = c.len-edges.result in
    let slot = c.args.slot in
    let slots = c.args.input.slots.now in
    let count : n ≡ length c.set_sorted.new.self.windows.items = (let n = c.len-edges.ensures in let m = c.set_sorted.new.self.windows.ok in omega arith) in
    let h = branch_hashed c.requires.slots _ n c.in_ok-set_sorted.ensures.parts count (sym c.is_hashed.ensures ∙ c.if-is_hashed.true) in
    let small : length slots < 2 ^ 64 = search rules in
    ends_room h (2 ^ 64) small _ (ap (λ x. take x (drop (slot + n) slots)) (let e : slot + 2 * n - (slot + n) ≡ n = omega arith in e))

pub push_hashed-requires-clause-within : goal.push_hashed-requires-clause-within
push_hashed-requires-clause-within g c =
    let kind = g.K.ZeroTrieWithOptions.kind in
    let ws = c.set_sorted.new.self.windows.items in
    let n = c.len-edges.result in
    let count : n ≡ length ws = (let n = c.len-edges.ensures in let m = c.set_sorted.new.self.windows.ok in omega arith) in
    let k = branch_known c.requires.slots ws n c.in_ok-set_sorted.ensures.parts count in
    let laid = branch_hashed_laid kind (g.I.IndexedItems.pairs c.args.items) ws _ _ _ (ap (is_hashed kind) (sym count) ∙ sym c.is_hashed.ensures ∙ c.if-is_hashed.true) k.3 c.in_ok-set_sorted.ensures.table c.in_ok-set_hashed.ensures.ok in
    let long = ap length c.in_ok-set_hashed.ensures.windows in
    λ k d h. let w = numbers_within (length ws) _ laid.permutation k d h in omega arith

pub overflow_add-slot-else-is_hashed : goal.overflow_add-slot-else-is_hashed
overflow_add-slot-else-is_hashed g c =
    let count : c.len-edges.result ≡ length c.set_sorted.new.self.windows.items = (let n = c.len-edges.ensures in let m = c.set_sorted.new.self.windows.ok in omega arith) in
    let room = branch_within c.requires.slots _ c.len-edges.result c.in_ok-set_sorted.ensures.parts count in
    search (room, rules)

pub returns-in_ok-push_hashed-clause-laid : goal.returns-in_ok-push_hashed-clause-laid
returns-in_ok-push_hashed-clause-laid g c =
    let kind = g.K.ZeroTrieWithOptions.kind in
    let all = g.I.IndexedItems.pairs c.args.items in
    let ws = c.set_sorted.new.self.windows.items in
    let n = c.len-edges.result in
    let count : n ≡ length ws = (let n = c.len-edges.ensures in let m = c.set_sorted.new.self.windows.ok in omega arith) in
    let k = branch_known c.requires.slots ws n c.in_ok-set_sorted.ensures.parts count in
    let same : c.set_hashed.new.self.windows.items ≡ ws = c.in_ok-set_hashed.ensures.windows in
    subst (λ x. IsLayout kind (edge_no all x) (length x) c.set_hashed.new.self.table.items c.set_hashed.new.self.numbers.items) (sym same)
    (branch_hashed_laid kind all ws _ _ _ (ap (is_hashed kind) (sym count) ∙ sym c.is_hashed.ensures ∙ c.if-is_hashed.true) k.3 c.in_ok-set_sorted.ensures.table c.in_ok-set_hashed.ensures.ok)

pub returns-in_ok-push_sorted-clause-laid : goal.returns-in_ok-push_sorted-clause-laid
returns-in_ok-push_sorted-clause-laid g c =
    let kind = g.K.ZeroTrieWithOptions.kind in
    let ws = c.set_sorted.new.self.windows.items in
    let n = c.len-edges.result in
    let count : n ≡ length ws = (let n = c.len-edges.ensures in let m = c.set_sorted.new.self.windows.ok in omega arith) in
    let k = branch_known c.requires.slots ws n c.in_ok-set_sorted.ensures.parts count in
    let o = c.number_in_order.ensures in
    rw (o.windows, o.table) (branch_sorted_laid kind (g.I.IndexedItems.pairs c.args.items) ws _ _ (ap (is_hashed kind) (sym count) ∙ sym c.is_hashed.ensures ∙ c.if-is_hashed.false) k.3
    c.in_ok-set_sorted.ensures.table c.in_ok-number_in_order.ensures.numbers)

pub push_sorted-requires : goal.push_sorted-requires
push_sorted-requires g c =
    let count : c.len-edges.result ≡ length c.set_sorted.new.self.windows.items = (let n = c.len-edges.ensures in let m = c.set_sorted.new.self.windows.ok in omega arith) in
    let k = branch_known c.requires.slots _ c.len-edges.result c.in_ok-set_sorted.ensures.parts count in
    let some = k.2 in
    let same = ap length c.number_in_order.ensures.windows in
    omega arith
