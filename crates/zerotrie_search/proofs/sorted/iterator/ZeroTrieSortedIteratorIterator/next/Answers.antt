use Rattle.std.proofs.Common.{◌∙◌, ℕ, ap, subst, Vec, Some, None, Ok, Err}
use Rattle.zerotrie_core.specs.declared.listing.ListError.TheVariants.{OutOfMemory}
use Rattle.zerotrie_search.specs.Sorted.{SortsOne}
use Rattle.zerotrie_search.proofs.TurnLemmas.{sorted_pair, sorted_end, sorted_error}
use Rattle.zerotrie_search.proofs.sorted.iterator.ZeroTrieSortedIteratorIterator.next.Goals as goal

pub returns-in-Ok-clause-steps : goal.returns-in-Ok-clause-steps
returns-in-Ok-clause-steps g c =
    let e = c.advance.ensures in
    subst (λ b. SortsOne {K = Vec ℕ g.row.A.Denot} (λ k. k.items) b (Some (Ok (c.in-Ok.key, c.value.result))) c.advance.new.self) c.self.view_is
    (sorted_pair {K = Vec ℕ g.row.A.Denot} (λ k. k.items) c.self.inside.pairs c.advance.new.self c.advance.result e.lists e.kind e.bytes c.in-Ok.key c.value.result (c.in-Ok-true.is ∙ ap Ok c.in-Ok-true.field-0-test) c.in-Ok.ensures c.value.ensures)

pub returns-in-Ok-false-clause-steps : goal.returns-in-Ok-false-clause-steps
returns-in-Ok-false-clause-steps g c =
    let e = c.advance.ensures in
    subst (λ b. SortsOne {K = Vec ℕ g.row.A.Denot} (λ k. k.items) b None c.advance.new.self) c.self.view_is
    (sorted_end {K = Vec ℕ g.row.A.Denot} (λ k. k.items) c.self.inside.pairs c.advance.new.self c.advance.result e.lists e.kind e.bytes (c.in-Ok-false.is ∙ ap Ok c.in-Ok-false.field-0-test))

pub returns-in-Err-clause-steps : goal.returns-in-Err-clause-steps
returns-in-Err-clause-steps g c =
    let e = c.advance.ensures in
    subst (λ b. SortsOne {K = Vec ℕ g.row.A.Denot} (λ k. k.items) b (Some (Err OutOfMemory)) c.advance.new.self) c.self.view_is
    (sorted_error {K = Vec ℕ g.row.A.Denot} (λ k. k.items) c.self.inside.pairs c.advance.new.self c.advance.result e.lists e.kind e.bytes c.in-Err.field-0 c.in-Err.is)
