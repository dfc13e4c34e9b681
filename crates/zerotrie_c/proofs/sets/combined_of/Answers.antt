use Rattle.std.proofs.Common.{inl, inr, sym, ap, subst}
use Rattle.zerotrie_sets.specs.Rows.{all_joined}
use Rattle.zerotrie_sets.specs.Selections.{selected_rows, SomeRowErrs}
use Rattle.zerotrie_c.specs.Listed.{IsFlat}
use Rattle.zerotrie_c.specs.Sets.{IsSetError}
use Rattle.zerotrie_c.proofs.SetLemmas.{lefts, all_meant, some_source}
use Rattle.zerotrie_c.proofs.sets.combined_of.Goals as goal

pub returns-in-Ok-selected_of-clause-ok : goal.returns-in-Ok-selected_of-clause-ok
returns-in-Ok-selected_of-clause-ok c =
    let selection = c.args.selection in
    let rule = c.args.rule in
    let f = c.in-Ok-selected_of.flat in
    let lists = lefts c.in-Ok-streams_of.streams.items in
    let tries = c.in-Ok.tries.items in
    let meant = all_meant c.args.sources.now tries lists c.in-Ok.ensures.ok (rw c.as_slice.ensures.value at c.in-Ok-streams_of.ensures.lists) in
    let ascend = c.in-Ok-streams_of.ensures.ascend in
    let rows = ap (λ s. s.items) c.in_ok-rows.ensures.always in
    let allowed = c.in-Ok-selected_of.ensures.allowed in (
      selected_rows selection rule (all_joined lists),
      (
        lists,
        meant,
        c.selections_are_of_maps.ensures selection rule lists ascend,
        λ e errs. allowed e (subst (λ is. SomeRowErrs selection rule is e) (sym rows) ((c.row_errors_are_of_keys.ensures selection rule lists e ascend).1 errs)),
      ),
      subst (λ is. IsFlat (selected_rows selection rule is) f.keys.items f.ends.items f.values.items) rows c.in-Ok-selected_of.ensures.ok,
    )

pub returns-in-Err-streams_of-clause-err : goal.returns-in-Err-streams_of-clause-err
returns-in-Err-streams_of-clause-err c =
    let why = IsSetError c.args.selection c.args.rule c.args.sources.now in
    elim c.in-Err-streams_of.ensures.err [
      | inl none ↦ subst why (sym none) tt
      | inr bad ↦ subst why (sym bad.0) (some_source c.args.sources.now c.in-Ok.tries.items c.in-Ok.ensures.ok (rw c.as_slice.ensures.value at bad.1))
    ]

pub returns-in-Err-clause-err : goal.returns-in-Err-clause-err
returns-in-Err-clause-err c =
    let why = IsSetError c.args.selection c.args.rule c.args.sources.now in
    elim c.in-Err.ensures.err [
      | inl none ↦ subst why (sym none) tt
      | inr bad ↦ subst why (sym bad.0) bad.1
    ]

pub returns-clause-err : goal.returns-clause-err
returns-clause-err c =
    let selection = c.args.selection in
    let rule = c.args.rule in
    let why = IsSetError selection rule c.args.sources.now in
    let lists = lefts c.in-Ok-streams_of.streams.items in
    let meant = all_meant c.args.sources.now c.in-Ok.tries.items lists c.in-Ok.ensures.ok (rw c.as_slice.ensures.value at c.in-Ok-streams_of.ensures.lists) in
    let ascend = c.in-Ok-streams_of.ensures.ascend in
    let rows = ap (λ s. s.items) c.in_ok-rows.ensures.always in
    elim c.in-Err-selected_of.ensures.err [
      | inl none ↦ subst why (sym none) tt
      | inr bad ↦ subst why (sym bad.1) (lists, meant, (c.row_errors_are_of_keys.ensures selection rule lists bad.0 ascend).0 (subst (λ is. SomeRowErrs selection rule is bad.0) rows bad.2))
    ]
