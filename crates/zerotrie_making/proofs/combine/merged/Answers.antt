use Rattle.std.proofs.Common.{◌≡◌, ◌∙◌, ◌++◌, [], ◌∷◌, ap, sym, subst, map, append-nil}
use Rattle.zerotrie_core.specs.Maps.{Pairs}
use Rattle.zerotrie_queries.proofs.RecasedLemmas.{one_looked_up}
use Rattle.zerotrie_sets.specs.Rows.{all_joined}
use Rattle.zerotrie_sets.specs.Selections.{selected, selected_rows, SomeRowErrs, IsSelection}
use Rattle.zerotrie_making.specs.Combinations.{IsNotTaken}
use Rattle.zerotrie_making.proofs.CombineLemmas.{AreOf, rows_are_of, errs_later, not_taken, passed_on}
use Rattle.zerotrie_making.proofs.combine.merged.Goals as goal

pub loop-table-preserved : goal.loop-table-preserved
loop-table-preserved g c =
    let l = c.loop-table in
    let selection = c.args.combination.selection in
    let rule = c.args.combination.rule in
    let lists = map {B = Pairs} (λ s. (g.S.PairStream.left s).pairs) c.args.streams.items in
    let row = c.advance.new.self.current in
    let after = c.advance.new.self.left.items in
    let more = selected_rows selection rule after in
    let value = selected selection rule row.1 in
    let step = rw c.if-branch.true at c.in_ok-advance.ensures.advances in
    let items : l.rows.left.items ≡ row ∷ after = ap (λ s. s.items) step.0 in
    record {
      pairs = ap (λ t. t ++ more) c.in_ok-add_taken.ensures.added ∙ one_looked_up l.table row.0 value more
          ∙ ap (λ is. l.table ++ selected_rows selection rule is) (sym items) ∙ l.invariant.pairs;
      later = λ e errs. errs_later selection rule row after e (c.in_ok-add_taken.ensures.allowed e) (subst (λ is. SomeRowErrs selection rule is e) items (l.invariant.later e errs));
      each = (subst (AreOf lists) items l.invariant.each).1;
    }

pub loop-table-init : goal.loop-table-init
loop-table-init g c =
    let selection = c.args.combination.selection in
    let rule = c.args.combination.rule in
    let lists = map {B = Pairs} (λ s. (g.S.PairStream.left s).pairs) c.args.streams.items in
    let left = c.in_ok-rows.rows.left.items in
    let rows : left ≡ all_joined lists = ap (λ s. s.items) c.in_ok-rows.ensures.always in
    record {
      pairs = ap (λ t. t ++ selected_rows selection rule left) c.new-table.ensures ∙ ap (selected_rows selection rule) rows;
      later = λ e errs. subst (λ is. SomeRowErrs selection rule is e) (sym rows) errs;
      each = rows_are_of lists left (c.in_ok-rows.ensures.is c.requires);
    }

pub returns-in_err-add_taken-clause-err : goal.returns-in_err-add_taken-clause-err
returns-in_err-add_taken-clause-err g c =
    let lists = map {B = Pairs} (λ s. (g.S.PairStream.left s).pairs) c.args.streams.items in
    let row = c.advance.new.self.current in
    let after = c.advance.new.self.left.items in
    let step = rw c.if-branch.true at c.in_ok-advance.ensures.advances in
    let items : c.loop-table.rows.left.items ≡ row ∷ after = ap (λ s. s.items) step.0 in
    let e = c.in_err-add_taken.field-0.0 in
    passed_on c.from_residual-in_err-add_taken.result e (IsNotTaken c.args.combination lists) c.from_residual-in_err-add_taken.ensures.1
    (not_taken c.args.combination lists row e (subst (AreOf lists) items c.loop-table.invariant.each).0 c.in_err-add_taken.ensures.err)

pub returns-clause-ok : goal.returns-clause-ok
returns-clause-ok g c =
    let l = c.loop-table in
    let selection = c.args.combination.selection in
    let rule = c.args.combination.rule in
    let lists = map {B = Pairs} (λ s. (g.S.PairStream.left s).pairs) c.args.streams.items in
    let step = rw c.if-branch.false at c.in_ok-advance.ensures.advances in
    let none : l.rows.left.items ≡ [] = step.0 in
    let is : l.table ≡ selected_rows selection rule (all_joined lists) =
    sym (append-nil l.table) ∙ sym (ap (λ rows. l.table ++ selected_rows selection rule rows) none) ∙ l.invariant.pairs in
    record {
      taken = subst (λ pairs. IsSelection selection rule lists pairs) (sym is) (c.selections_are_of_maps.ensures selection rule lists c.requires);
      valued = λ key why h. subst (λ rows. SomeRowErrs selection rule rows why) none (l.invariant.later why ((c.row_errors_are_of_keys.ensures selection rule lists why c.requires).1 (key, h)));
    }
