use Rattle.std.proofs.Common.{◌∷◌, ◌∙◌, ap, sym, ℕ, List, refl, subst}
use Rattle.std.specs.declared.cmp.Ordering.TheVariants.{Less}
use Rattle.zerotrie.specs.dense.Rows.{IsInOrder}
use Rattle.zerotrie.specs.dense.Views.{pairs_in, rows_in}
use Rattle.zerotrie_c.specs.Entries.{entry_before}
use Rattle.zerotrie_c.proofs.FrontLemmas.{first_of_all, joined, apart, out_of_order}
use Rattle.zerotrie_c.proofs.entries.put_entry.Goals as goal

pub put_row-requires-in-Less : goal.put_row-requires-in-Less
put_row-requires-in-Less c = first_of_all c.pop_first.new.self.entries c.in-Some.first c.in-Some.ensures.all_above

pub put_row-requires-in-Equal : goal.put_row-requires-in-Equal
put_row-requires-in-Equal c = first_of_all c.pop_first.new.self.entries c.in-Some.first c.in-Some.ensures.all_above

pub returns-in_ok-put_suffix-in-Equal-clause-put : goal.returns-in_ok-put_suffix-in-Equal-clause-put
returns-in_ok-put_suffix-in-Equal-clause-put c =
    let e : List ℕ × List ℕ × ℕ = (c.args.prefix.now, c.args.suffix.now, c.args.value) in
    let rest = rows_in c.pop_first.new.self.entries in
    let first = c.in-Some.first.now in
    let same = ap (λ es. entry_before e (rows_in es)) c.in-Some.ensures.removal
    ∙ joined e first (pairs_in c.in-Some.row.entries) rest (sym c.cmp.ensures ∙ c.in-Equal.is)
    ∙ ap (λ l. (first, l) ∷ rest) (sym c.in_ok-put_suffix-in-Equal.ensures.put) in
    rw same c.put_row-in-Equal.ensures.put

pub returns-in_ok-row-in-Less-clause-put : goal.returns-in_ok-row-in-Less-clause-put
returns-in_ok-row-in-Less-clause-put c =
    let e : List ℕ × List ℕ × ℕ = (c.args.prefix.now, c.args.suffix.now, c.args.value) in
    let rest = rows_in c.pop_first.new.self.entries in
    let first = c.in-Some.first.now in
    let pairs = pairs_in c.in-Some.row.entries in
    let same = ap (λ es. entry_before e (rows_in es)) c.in-Some.ensures.removal
    ∙ apart e first pairs rest Less (sym c.cmp.ensures ∙ c.in-Less.is) refl
    ∙ ap (λ l. (c.args.prefix.now, l) ∷ (first, pairs) ∷ rest) (sym c.in_ok-row-in-Less.ensures.row)
    ∙ ap (λ rows. (c.args.prefix.now, pairs_in c.in_ok-row-in-Less.row.entries) ∷ rows) (sym c.in_ok-put_row-in-Less.ensures.put) in
    rw same c.put_row-in-Less-2.ensures.put

pub returns-in-Greater-clause-refused : goal.returns-in-Greater-clause-refused
returns-in-Greater-clause-refused c order =
    let e : List ℕ × List ℕ × ℕ = (c.args.prefix.now, c.args.suffix.now, c.args.value) in
    out_of_order e c.in-Some.first.now (pairs_in c.in-Some.row.entries) (rows_in c.pop_first.new.self.entries)
    (sym c.cmp.ensures ∙ c.in-Greater.is) (subst (λ es. IsInOrder (entry_before e (rows_in es))) c.in-Some.ensures.removal order)
