use Rattle.std.proofs.Common.{◌≡◌, ◌+◌, ◌≤◌, length, arith, drop, sym, ◌∙◌, ap, subst}
use Rattle.zerotrie_base.specs.Maps.{with_front}
use Rattle.zerotrie_base.specs.plain.Encoding.{pairs_from, Deep, IsBranching, WritesFront, weight}
use Rattle.zerotrie_base.proofs.PlainLemmas.Items.{key_at}
use Rattle.zerotrie_base.proofs.PlainLemmas.Groups.{leads_value, leads_literal}
use Rattle.zerotrie_base.proofs.PlainLemmas.Cuts.{ended, deep_next, deep_here, deeper, shared, some_rest, branches, is_some, is_none, literal_lighter}
use Rattle.zerotrie_core.proofs.plain.push_run.Goals as goal

pub loop-at-preserved-then-key_len-depth : goal.loop-at-preserved-then-key_len-depth
loop-at-preserved-then-key_len-depth c =
    let inside = c.loop-at-test.true in
    let k = c.in_ok-push_value.ensures.ok in
    let is = ended c.loop-at.depth c.loop-at.at c.args.items.now inside (sym c.key_len.ensures ∙ c.if-key_len-depth.true) in
    record {
      within = omega arith;
      deep = deep_next c.loop-at.depth c.loop-at.at c.args.items.now inside c.loop-at.invariant.deep;
      leads = leads_value _ _ _ k.0 _ _ _ (subst (WritesFront c.args.out.now.items (pairs_from c.args.depth c.args.items.now) c.loop-at.out.items) is c.loop-at.invariant.leads) k.1 k.2;
    }

pub loop-at-smaller-then-key_len-depth : goal.loop-at-smaller-then-key_len-depth
loop-at-smaller-then-key_len-depth c =
    let is = ap weight (ended c.loop-at.depth c.loop-at.at c.args.items.now c.loop-at-test.true (sym c.key_len.ensures ∙ c.if-key_len-depth.true)) in
    omega arith

pub first_group-byte-requires-clause-deep : goal.first_group-byte-requires-clause-deep
first_group-byte-requires-clause-deep c =
    subst (Deep (c.loop-at.depth + 1)) (sym c.split_at.ensures.back) (deeper c.loop-at.depth c.loop-at.at c.args.items.now c.loop-at-test.true (λ e. c.if-key_len-depth.false (c.key_len.ensures ∙ e)) c.loop-at.invariant.deep c.loop-at.invariant.leads.ascends)

pub returns-then-not-is_empty-clause-deep : goal.returns-then-not-is_empty-clause-deep
returns-then-not-is_empty-clause-deep c = deeper c.loop-at.depth c.loop-at.at c.args.items.now c.loop-at-test.true (λ e. c.if-key_len-depth.false (c.key_len.ensures ∙ e)) c.loop-at.invariant.deep c.loop-at.invariant.leads.ascends

pub returns-then-not-is_empty-clause-branching : goal.returns-then-not-is_empty-clause-branching
returns-then-not-is_empty-clause-branching c h =
    let s = c.split_at.ensures.back in
    let deep = deeper c.loop-at.depth c.loop-at.at c.args.items.now c.loop-at-test.true (λ e. c.if-key_len-depth.false (c.key_len.ensures ∙ e)) c.loop-at.invariant.deep c.loop-at.invariant.leads.ascends in
    let more = is_some (length c.first_group-byte.result.2.now) (sym c.if-not-is_empty.true ∙ c.is_empty.ensures) in
    subst (λ r. IsBranching (pairs_from c.loop-at.depth r)) s
    (branches c.loop-at.depth c.first_group-byte.result.0 c.split_at.result.1.now c.first_group-byte.result.1.now c.first_group-byte.result.2.now c.first_group-byte.ensures.parts (subst (Deep (c.loop-at.depth + 1)) (sym s) deep)
    c.first_group-byte.ensures.some c.first_group-byte.ensures.same c.first_group-byte.ensures.other more)

pub overflow_add-depth : goal.overflow_add-depth
overflow_add-depth c =
    let n = c.key_len.ensures in let fits = c.key_len.type_inv in
    let h = deep_here c.loop-at.depth c.loop-at.at c.args.items.now c.loop-at-test.true c.loop-at.invariant.deep in
    let k : c.loop-at.depth + 1 ≤ length (key_at c.args.items.now c.loop-at.at) = omega arith in
    omega arith

same : (c : goal.In_ok-push) → pairs_from c.loop-at.depth (drop c.loop-at.at c.args.items.now) ≡ with_front c.first_group-byte.result.0 (pairs_from (c.loop-at.depth + 1) (drop c.loop-at.at c.args.items.now))
same c =
    let s = c.split_at.ensures.back in
    let deep = deeper c.loop-at.depth c.loop-at.at c.args.items.now c.loop-at-test.true (λ e. c.if-key_len-depth.false (c.key_len.ensures ∙ e)) c.loop-at.invariant.deep c.loop-at.invariant.leads.ascends in
    let none = is_none (length c.first_group-byte.result.2.now) (sym c.if-not-is_empty.false ∙ c.is_empty.ensures) in
    subst (λ r. pairs_from c.loop-at.depth r ≡ with_front c.first_group-byte.result.0 (pairs_from (c.loop-at.depth + 1) r)) s
    (shared c.loop-at.depth c.first_group-byte.result.0 c.split_at.result.1.now c.first_group-byte.result.1.now c.first_group-byte.result.2.now c.first_group-byte.ensures.parts (subst (Deep (c.loop-at.depth + 1)) (sym s) deep)
    c.first_group-byte.ensures.some c.first_group-byte.ensures.same c.first_group-byte.ensures.other none)

pub loop-at-smaller : goal.loop-at-smaller
loop-at-smaller c = literal_lighter _ c.loop-at.depth c.loop-at.at c.args.items.now c.loop-at-test.true (same c)

pub loop-at-preserved : goal.loop-at-preserved
loop-at-preserved c = record {
  within = c.loop-at.invariant.within;
  deep = deeper c.loop-at.depth c.loop-at.at c.args.items.now c.loop-at-test.true (λ e. c.if-key_len-depth.false (c.key_len.ensures ∙ e)) c.loop-at.invariant.deep c.loop-at.invariant.leads.ascends;
  leads = leads_literal _ _ _ _ _ _ (subst (WritesFront c.args.out.now.items (pairs_from c.args.depth c.args.items.now) c.loop-at.out.items) (same c) c.loop-at.invariant.leads) (some_rest (c.loop-at.depth + 1) c.loop-at.at c.args.items.now c.loop-at-test.true) c.in_ok-push.ensures.items;
}

pub returns-then-not-is_empty-clause-room : goal.returns-then-not-is_empty-clause-room
returns-then-not-is_empty-clause-room c =
    let n = c.key_len.ensures in
    let fits = c.key_len.type_inv in
    let h = deep_here c.loop-at.depth c.loop-at.at c.args.items.now c.loop-at-test.true c.loop-at.invariant.deep in
    let longer = c.if-key_len-depth.false in
    λ l. omega arith
