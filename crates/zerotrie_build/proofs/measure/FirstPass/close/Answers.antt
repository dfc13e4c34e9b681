use Rattle.std.proofs.Common.{rules, ◌≡◌, ◌+◌, ◌-◌, ◌^◌, ◌≤◌, ◌<◌, ◌⊎◌, [], ◌∷◌, ◌++◌, get_or, refl, sym, ◌∙◌, ap, subst, arith, length, reverse, take, drop}
use Rattle.std.proofs.lemmas.List.{get_or_read, reverse-append}
use Rattle.std.proofs.lemmas.Result.{err_from_is_err_and}
use Rattle.zerotrie_base.specs.Kind.{greatest_width}
use Rattle.zerotrie_base.specs.Branches.{total}
use Rattle.zerotrie_base.specs.Canonical.{branch_size}
use Rattle.zerotrie_build.specs.declared.measure.OpenBranch.{OpenBranch}
use Rattle.zerotrie_build.specs.declared.windows.Window.{Window}
use Rattle.zerotrie_build.specs.passes.Walking.{IsInside, Closing, left_open}
use Rattle.zerotrie_build.proofs.Stacks.{popped}
use Rattle.zerotrie_build.proofs.MeasureLemmas.Inner.{inner, inner_within, waits_next, all_closed}
use Rattle.zerotrie_build.proofs.MeasureLemmas.Last.{last, last_lens, last_count, last_closing, last_refused, with_len_long}
use Rattle.zerotrie_build.proofs.measure.FirstPass.close.Goals as goal

pub index-from-requires : goal.index-from-requires
index-from-requires g c =
    let f = c.in-Some.branch in
    let i = inner f (reverse c.pop.new.self.items) c.loop-branch.invariant.closing (popped c.loop-branch.self.branches.items c.pop.new.self.items f c.in-Some.ensures.items) in
    let w = inner_within i in
    let within = w.2 in let below = w.1 in search rules

pub keep-requires : goal.keep-requires
keep-requires g c =
    let f = c.in-Some.branch in
    let i = inner f (reverse c.pop.new.self.items) c.loop-branch.invariant.closing (popped c.loop-branch.self.branches.items c.pop.new.self.items f c.in-Some.ensures.items) in
    let w = inner_within i in
    λ k. ((refl, tt), (w.0, (w.1, w.2)))

pub overflow_add-branch : goal.overflow_add-branch
overflow_add-branch g c =
    let f = c.in-Some.branch in
    let i = inner f (reverse c.pop.new.self.items) c.loop-branch.invariant.closing (popped c.loop-branch.self.branches.items c.pop.new.self.items f c.in-Some.ensures.items) in
    let w = inner_within i in
    let within = w.2 in let below = w.1 in record { fits = search rules }

pub target_of-requires : goal.target_of-requires
target_of-requires g c =
    let f = c.in-Some.branch in
    let i = inner f (reverse c.pop.new.self.items) c.loop-branch.invariant.closing (popped c.loop-branch.self.branches.items c.pop.new.self.items f c.in-Some.ensures.items) in
    let w = inner_within i in
    let long : length c.keep.new.self.slots.items ≡ length c.loop-branch.self.slots.items = ap length c.keep.ensures.slots ∙ with_len_long _ f c.loop-branch.len c.loop-branch.self.slots.items in
    let t = c.if-branch.true in let within = w.2 in let room = i.counting.room in
    let slot = ap (λ (b : OpenBranch). b.next) c.after_target-branch.ensures in
    let depth = ap (λ (b : OpenBranch). b.depth) c.after_target-branch.ensures in
    λ k. ((refl, tt), (omega arith, omega arith))

pub returns-then-branch-clause-turn : goal.returns-then-branch-clause-turn
returns-then-branch-clause-turn g c =
    let f = c.in-Some.branch in
    let i = inner f (reverse c.pop.new.self.items) c.loop-branch.invariant.closing (popped c.loop-branch.self.branches.items c.pop.new.self.items f c.in-Some.ensures.items) in
    let w = inner_within i in
    let next : OpenBranch = record { from = c.index-from.result.now; depth = f.depth; len = f.len; first = f.first; next = f.next + 1; end = f.end } in
    let slots = c.keep.new.self.slots.items in
    let target = ap {B = Window} (λ (b : OpenBranch). record { from = b.from; to = get_or slots b.next 0; depth = b.depth + 1 }) c.after_target-branch.ensures in
    let back : reverse c.push.new.self.items ≡ next ∷ reverse c.pop.new.self.items =
    ap reverse (c.in_ok-push.ensures.items ∙ ap (λ b. c.keep.new.self.branches.items ++ b ∷ []) c.after_target-branch.ensures) ∙ reverse-append c.keep.new.self.branches.items (next ∷ []) ∙ ap (λ x. next ∷ reverse x) c.keep.ensures.branches in
    subst (λ x. IsInside g.K.ZeroTrieWithOptions.kind (g.I.IndexedItems.pairs c.args.self.now.items) c.target_of.result x slots) (sym back)
    (subst (λ w. IsInside g.K.ZeroTrieWithOptions.kind (g.I.IndexedItems.pairs c.args.self.now.items) w (next ∷ reverse c.pop.new.self.items) slots) (sym (c.target_of.ensures ∙ target))
    (waits_next i slots c.index-from.result.now c.keep.ensures.slots (let within = w.2 in let below = w.1 in get_or_read c.loop-branch.self.slots.items f.next c.index-from.result.now (omega arith) (search rules) 0) c.if-branch.true next refl))

pub offset_bounds-deref-branch : goal.offset_bounds-deref-branch
offset_bounds-deref-branch g c =
    let f = c.in-Some.branch in
    let i = inner f (reverse c.pop.new.self.items) c.loop-branch.invariant.closing (popped c.loop-branch.self.branches.items c.pop.new.self.items f c.in-Some.ensures.items) in
    let w = inner_within i in
    let long : length c.keep.new.self.slots.items ≡ length c.loop-branch.self.slots.items = ap length c.keep.ensures.slots ∙ with_len_long _ f c.loop-branch.len c.loop-branch.self.slots.items in
    let within = w.2 in let below = w.1 in let order = w.0 in record { fits = search rules }

pub slice_bounds-with_branch-count : goal.slice_bounds-with_branch-count
slice_bounds-with_branch-count g c =
    let f = c.in-Some.branch in
    let i = inner f (reverse c.pop.new.self.items) c.loop-branch.invariant.closing (popped c.loop-branch.self.branches.items c.pop.new.self.items f c.in-Some.ensures.items) in
    let w = inner_within i in
    omega (arith, w.0, w.1)

pub slice_bounds-with_branch-start : goal.slice_bounds-with_branch-start
slice_bounds-with_branch-start g c =
    let f = c.in-Some.branch in
    let i = inner f (reverse c.pop.new.self.items) c.loop-branch.invariant.closing (popped c.loop-branch.self.branches.items c.pop.new.self.items f c.in-Some.ensures.items) in
    let w = inner_within i in
    let long : length c.keep.new.self.slots.items ≡ length c.loop-branch.self.slots.items = ap length c.keep.ensures.slots ∙ with_len_long _ f c.loop-branch.len c.loop-branch.self.slots.items in
    let within = w.2 in let below = w.1 in let order = w.0 in search rules

pub slice_bounds-with_branch-end : goal.slice_bounds-with_branch-end
slice_bounds-with_branch-end g c =
    let f = c.in-Some.branch in
    let i = inner f (reverse c.pop.new.self.items) c.loop-branch.invariant.closing (popped c.loop-branch.self.branches.items c.pop.new.self.items f c.in-Some.ensures.items) in
    let w = inner_within i in
    let long : length c.keep.new.self.slots.items ≡ length c.loop-branch.self.slots.items = ap length c.keep.ensures.slots ∙ with_len_long _ f c.loop-branch.len c.loop-branch.self.slots.items in
    let within = w.2 in let below = w.1 in let order = w.0 in search rules

pub with_branch-requires-clause-two : goal.with_branch-requires-clause-two
with_branch-requires-clause-two g c =
    let f = c.in-Some.branch in
    let i = inner f (reverse c.pop.new.self.items) c.loop-branch.invariant.closing (popped c.loop-branch.self.branches.items c.pop.new.self.items f c.in-Some.ensures.items) in
    let w = inner_within i in
    let slots = c.keep.new.self.slots.items in
    let keys = c.requires.keys in
    let l = last i slots keys c.keep.ensures.slots (let t = c.if-branch.false in omega arith) in
    subst (λ x. 2 ≤ length x) (sym (ap (λ x. take (f.end - f.first) (drop f.first x)) c.deref.ensures.value ∙ last_lens l)) (last_count l keys).0

pub with_branch-requires-clause-few : goal.with_branch-requires-clause-few
with_branch-requires-clause-few g c =
    let f = c.in-Some.branch in
    let i = inner f (reverse c.pop.new.self.items) c.loop-branch.invariant.closing (popped c.loop-branch.self.branches.items c.pop.new.self.items f c.in-Some.ensures.items) in
    let w = inner_within i in
    let slots = c.keep.new.self.slots.items in
    let keys = c.requires.keys in
    let l = last i slots keys c.keep.ensures.slots (let t = c.if-branch.false in omega arith) in
    subst (λ x. length x ≤ 256) (sym (ap (λ x. take (f.end - f.first) (drop f.first x)) c.deref.ensures.value ∙ last_lens l)) (last_count l keys).1

pub returns-in_err-len-clause-refused : goal.returns-in_err-len-clause-refused
returns-in_err-len-clause-refused g c =
    let f = c.in-Some.branch in
    let i = inner f (reverse c.pop.new.self.items) c.loop-branch.invariant.closing (popped c.loop-branch.self.branches.items c.pop.new.self.items f c.in-Some.ensures.items) in
    let w = inner_within i in
    let slots = c.keep.new.self.slots.items in
    let keys = c.requires.keys in
    let l = last i slots keys c.keep.ensures.slots (let t = c.if-branch.false in omega arith) in
    let p = err_from_is_err_and c.from_residual-in_err-len.result c.from_residual-in_err-len.ensures.1 in
    let lens = ap (λ x. take (f.end - f.first) (drop f.first x)) c.deref.ensures.value ∙ last_lens l in
    let r = c.in_err-len.ensures.refused in
    rw (p.1, p.2) (λ memory. (r.0, last_refused l keys (subst (λ x. (256 ^ (greatest_width g.K.ZeroTrieWithOptions.kind + 1) ≤ total x) ⊎ (2 ^ 64 ≤ f.len + (branch_size g.K.ZeroTrieWithOptions.kind x + total x))) lens r.1)))

pub loop-branch-preserved : goal.loop-branch-preserved
loop-branch-preserved g c =
    let f = c.in-Some.branch in
    let i = inner f (reverse c.pop.new.self.items) c.loop-branch.invariant.closing (popped c.loop-branch.self.branches.items c.pop.new.self.items f c.in-Some.ensures.items) in
    let w = inner_within i in
    let slots = c.keep.new.self.slots.items in
    let keys = c.requires.keys in
    let l = last i slots keys c.keep.ensures.slots (let t = c.if-branch.false in omega arith) in
    let long : length c.keep.new.self.slots.items ≡ length c.loop-branch.self.slots.items = ap length c.keep.ensures.slots ∙ with_len_long _ f c.loop-branch.len c.loop-branch.self.slots.items in
    let lens = ap (λ x. take (f.end - f.first) (drop f.first x)) c.deref.ensures.value ∙ last_lens l in
    let fewer = ap left_open (popped c.loop-branch.self.branches.items c.pop.new.self.items f c.in-Some.ensures.items) in
    let v = c.loop-branch.invariant in
    let less = v.fewer in
    record {
      closing = subst (λ x. Closing g.K.ZeroTrieWithOptions.kind (g.I.IndexedItems.pairs c.args.self.now.items) (reverse x) slots c.in_ok-len.len) (sym c.keep.ensures.branches)
          (last_closing i slots l c.in_ok-len.len keys (subst (λ x. c.in_ok-len.len ≡ f.len + (branch_size g.K.ZeroTrieWithOptions.kind x + total x)) lens c.in_ok-len.ensures.len)
          (subst (λ x. total x < 256 ^ (greatest_width g.K.ZeroTrieWithOptions.kind + 1)) lens c.in_ok-len.ensures.narrow));
      items = c.keep.ensures.items ∙ v.items;
      same = long ∙ v.same;
      fewer = (let b = ap (λ x. left_open (reverse x)) c.keep.ensures.branches in omega arith);
    }

pub returns-clause-turn : goal.returns-clause-turn
returns-clause-turn g c = all_closed c.loop-branch.invariant.closing (ap reverse (let none : c.loop-branch.self.branches.items ≡ [] = search rules in none))
