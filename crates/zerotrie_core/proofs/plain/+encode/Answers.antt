use Rattle.std.proofs.Common.{◌+◌, ◌<◌, ◌≤◌, ◌∷◌, ◌++◌, [], ℕ, length, arith, drop, length-append, ◌∙◌, ap, subst, sym}
use Rattle.std.specs.Prelude.{Result, Ok, Err, OnOk}
use Rattle.std.proofs.lemmas.Result.{on_ok_weaker, IfErr-weaker, err_from_is_err_and}
use Rattle.zerotrie_base.specs.Kind.{simple_ascii}
use Rattle.zerotrie_base.specs.Texts.{Lists}
use Rattle.zerotrie_base.specs.Canonical.{branch_node}
use Rattle.zerotrie_base.specs.plain.Encoding.{pairs_from, IsBranching, weight}
use Rattle.zerotrie_base.proofs.PlainLemmas.Groups.{Grown, grown_start, grown_more, grown_lists, grown_targets, grown_wide, grown_starts, group_up, group_ascii, group_lighter, group_wide, refused_up, refused_branch, same_targets, leads_end}
use Rattle.zerotrie_base.proofs.PlainLemmas.Cuts.{is_group, deep_group, deep_others, none_ends, no_pairs, is_none, begun, deep_rest, leads_rest, grown_end}
use Rattle.zerotrie_core.proofs.plain.+encode.Goals as goal

pub returns-then-is_empty-clause-ok : goal.returns-then-is_empty-clause-ok
returns-then-is_empty-clause-ok t c =
    let none = no_pairs c.in_ok-ended.depth c.split_at.result.1.now (is_none (length c.split_at.result.1.now) c.if-is_empty.ensures) in
    leads_end _ _ _ _ none (leads_rest c.args.out.now.items c.push_run.new.out.items (pairs_from c.args.depth c.args.items.now) c.in_ok-ended.depth c.in_ok-ended.ended c.args.items.now c.split_at.result.1.now c.split_at.ensures.back c.in_ok-ended.ensures.leads)

pub loop-rest-init : goal.loop-rest-init
loop-rest-init t c =
    let leads = c.in_ok-ended.ensures.leads in
    record {
      deep = deep_rest (c.in_ok-ended.depth + 1) c.in_ok-ended.ended c.args.items.now c.split_at.result.1.now c.split_at.ensures.back c.in_ok-ended.ensures.deep;
      grown = subst (λ r. Grown (pairs_from c.in_ok-ended.depth (drop c.in_ok-ended.ended c.args.items.now)) c.new-edges.result.items c.new-starts.result.items c.new-targets.result.items (pairs_from c.in_ok-ended.depth r)) (sym c.split_at.ensures.back)
          (grown_start _ _ _ _ c.new-edges.ensures.items c.new-starts.ensures.items c.new-targets.ensures.items
          (none_ends c.in_ok-ended.depth (drop c.in_ok-ended.ended c.args.items.now) c.in_ok-ended.ensures.deep) leads.ascends leads.ascii);
    }

pub first_group-byte-requires-clause-deep : goal.first_group-byte-requires-clause-deep
first_group-byte-requires-clause-deep t c = c.loop-rest.invariant.deep

pub overflow_add-depth : goal.overflow_add-depth
overflow_add-depth t c =
    let room = c.in_ok-ended.ensures.room (begun c.in_ok-ended.ended c.args.items.now c.split_at.result.1.now c.split_at.ensures.back c.if-is_empty.ensures) in
    omega arith

pub encode-requires : goal.encode-requires
encode-requires t c =
    let f = c.first_group-byte.ensures in
    let r = c.first_group-byte.result in
    let group = is_group c.in_ok-ended.depth r.0 c.loop-rest.rest.now r.1.now r.2.now f.parts c.loop-rest.invariant.deep f.some f.same f.other in
    let g = c.loop-rest.invariant.grown in
    let low = group_lighter g group in
    let leads = c.in_ok-ended.ensures.leads in
    let lighter = leads.lighter in
    let falls : weight (pairs_from (c.in_ok-ended.depth + 1) c.first_group-byte.result.1.now) < t = (let d = c.decreases in omega arith) in
    (falls, (deep_group c.in_ok-ended.depth r.0 c.loop-rest.rest.now r.1.now r.2.now f.parts c.loop-rest.invariant.deep f.some f.same f.other, (group_up g group, group_ascii g group)))

pub returns-in_err-encode-clause-err : goal.returns-in_err-encode-clause-err
returns-in_err-encode-clause-err t c =
    let f = c.first_group-byte.ensures in
    let r = c.first_group-byte.result in
    let group = is_group c.in_ok-ended.depth r.0 c.loop-rest.rest.now r.1.now r.2.now f.parts c.loop-rest.invariant.deep f.some f.same f.other in
    let leads = c.in_ok-ended.ensures.leads in
    let p = err_from_is_err_and c.from_residual-in_err-encode.result c.from_residual-in_err-encode.ensures.1 in
    rw (p.1, p.2) (refused_up _ _ _ (λ w. leads.wide (group_wide {all = pairs_from c.in_ok-ended.depth (drop c.in_ok-ended.ended c.args.items.now)} c.loop-rest.invariant.grown group w)) c.in_err-encode.ensures.err)

pub loop-rest-smaller : goal.loop-rest-smaller
loop-rest-smaller t c =
    let f = c.first_group-byte.ensures in
    let r = c.first_group-byte.result in
    let group = is_group c.in_ok-ended.depth r.0 c.loop-rest.rest.now r.1.now r.2.now f.parts c.loop-rest.invariant.deep f.some f.same f.other in
    let some = f.some in
    let parts = ap length f.parts in
    let len = length-append r.1.now r.2.now in
    omega arith

pub loop-rest-preserved : goal.loop-rest-preserved
loop-rest-preserved t c =
    let f = c.first_group-byte.ensures in
    let r = c.first_group-byte.result in
    let group = is_group c.in_ok-ended.depth r.0 c.loop-rest.rest.now r.1.now r.2.now f.parts c.loop-rest.invariant.deep f.some f.same f.other in
    record {
      deep = deep_others c.in_ok-ended.depth r.0 c.loop-rest.rest.now r.1.now r.2.now f.parts c.loop-rest.invariant.deep f.some f.same f.other;
      grown = grown_more c.loop-rest.invariant.grown group _ _ _ c.in_ok-push.ensures.items
          (c.in_ok-push-2.ensures.items ∙ ap (λ n. c.loop-rest.starts.items ++ n ∷ []) (c.len.ensures ∙ c.loop-rest.targets.ok.0)) c.in_ok-encode.ensures.ok;
    }

pub split_at-requires-2 : goal.split_at-requires-2
split_at-requires-2 t c =
    let more = begun c.in_ok-ended.ended c.args.items.now c.split_at.result.1.now c.split_at.ensures.back c.if-is_empty.ensures in
    let branching = c.in_ok-ended.ensures.branching more in
    let g = grown_end (pairs_from c.in_ok-ended.depth (drop c.in_ok-ended.ended c.args.items.now)) c.loop-rest.edges.items c.loop-rest.starts.items c.loop-rest.targets.items c.in_ok-ended.depth c.loop-rest.rest.now (is_none (length c.loop-rest.rest.now) (sym c.loop-rest-test.false ∙ c.is_empty-in-loop-rest.ensures)) c.loop-rest.invariant.grown in
    subst (λ x. 1 ≤ length x) (sym c.deref.ensures.value) (grown_starts g branching)

branching_here : (t : ℕ) (c : goal.After-drop-edges-2 t) → IsBranching (pairs_from c.in_ok-ended.depth (drop c.in_ok-ended.ended c.args.items.now))
branching_here t c =
    let more = begun c.in_ok-ended.ended c.args.items.now c.split_at.result.1.now c.split_at.ensures.back c.if-is_empty.ensures in
    c.in_ok-ended.ensures.branching more

grown_here : (t : ℕ) (c : goal.After-drop-edges-2 t) → Grown (pairs_from c.in_ok-ended.depth (drop c.in_ok-ended.ended c.args.items.now)) c.loop-rest.edges.items c.loop-rest.starts.items c.loop-rest.targets.items []
grown_here t c = grown_end (pairs_from c.in_ok-ended.depth (drop c.in_ok-ended.ended c.args.items.now)) c.loop-rest.edges.items c.loop-rest.starts.items c.loop-rest.targets.items c.in_ok-ended.depth c.loop-rest.rest.now (is_none (length c.loop-rest.rest.now) (sym c.loop-rest-test.false ∙ c.is_empty-in-loop-rest.ensures)) c.loop-rest.invariant.grown

both_ok : {T E : Type 0} (P Q : Type 0) (r : Result T E) → OnOk r P → OnOk r Q → OnOk r (P × Q)
both_ok P Q (Ok x) p q = (p, q)
both_ok P Q (Err e) p q = tt

pub returns-clause-ok : goal.returns-clause-ok
returns-clause-ok t c =
    let leads = c.in_ok-ended.ensures.leads in
    let offsets_are = c.split_at-2.ensures.back ∙ ap (drop 1) c.deref.ensures.value in
    let g = grown_here t c in
    let targets = same_targets g.texts _ _ _ _ _ _ c.deref-2.ensures.value offsets_are c.deref-3.ensures.value (grown_targets g (branching_here t c)) in
    let targets_are = ap length c.deref-3.ensures.value in
    on_ok_weaker c.push_branch.result
    (λ done. leads.finish _ (record {
      text = branch_node c.deref-2.result.now g.texts;
      lists = subst (λ es. Lists simple_ascii (branch_node es g.texts) (pairs_from c.in_ok-ended.depth (drop c.in_ok-ended.ended c.args.items.now))) (sym c.deref-2.ensures.value)
          (grown_lists g (branching_here t c) (let narrow = done.1 in omega arith));
      is = done.0 g.texts targets;
    }))
    (both_ok _ _ c.push_branch.result c.push_branch.ensures.ok c.push_branch.ensures.narrow)

pub returns-clause-err : goal.returns-clause-err
returns-clause-err t c =
    let leads = c.in_ok-ended.ensures.leads in
    let targets_are = ap length c.deref-3.ensures.value in
    IfErr-weaker c.push_branch.result _ _
    (λ e r. refused_branch _ e (length c.deref-3.result.now) (λ h. leads.wide (grown_wide (grown_here t c) (branching_here t c) (omega arith))) r)
    c.push_branch.ensures.err
