use Rattle.std.proofs.Common.{◌≡◌, ◌∙◌, ◌++◌, ◌∷◌, length, ap, sym, subst, inr}
use Rattle.zerotrie_sets.specs.Selections.{selected, selected_rows, SomeRowErrs}
use Rattle.zerotrie_c.specs.Listed.{joined, ends_from, values_of}
use Rattle.zerotrie_c.proofs.SetLemmas.{keys_step, values_step, errs_later, added_ends}
use Rattle.zerotrie_c.proofs.sets.selected_of.Goals as goal

pub loop-flat-preserved : goal.loop-flat-preserved
loop-flat-preserved c =
    let l = c.loop-flat in
    let selection = c.args.selection in
    let rule = c.args.rule in
    let row = c.advance.new.self.current in
    let after = c.advance.new.self.left.items in
    let more = selected_rows selection rule after in
    let value = selected selection rule row.1 in
    let step = rw c.if-branch.true at c.in_ok-advance.ensures.advances in
    let items : l.rows.left.items ≡ row ∷ after = ap (λ s. s.items) step.0 in
    let added = c.in-Ok.ensures.added in
    let old = l.flat in
    record {
      keys = ap (λ ks. ks ++ joined more) added.0 ∙ keys_step old.keys.items row.0 value more
          ∙ ap (λ is. old.keys.items ++ joined (selected_rows selection rule is)) (sym items) ∙ l.invariant.keys;
      ends = added_ends old.ends.items _ old.keys.items _ row.0 value more added.0 added.1
          ∙ ap (λ is. old.ends.items ++ ends_from (length old.keys.items) (selected_rows selection rule is)) (sym items) ∙ l.invariant.ends;
      values = ap (λ vs. vs ++ values_of more) added.2 ∙ values_step old.values.items row.0 value more
          ∙ ap (λ is. old.values.items ++ values_of (selected_rows selection rule is)) (sym items) ∙ l.invariant.values;
      later = λ e errs. errs_later selection rule row after e (c.in-Ok.ensures.allowed e) (subst (λ is. SomeRowErrs selection rule is e) items (l.invariant.later e errs));
      before = λ e errs. l.invariant.before e (subst (λ is. SomeRowErrs selection rule is e) (sym items) (inr errs));
    }
