use Rattle.std.proofs.Common.{◌≡◌, true, false, string_bytes, refl, sym, ◌∙◌}
use Rattle.zerotrie.specs.Walks.{ops_of}
use Rattle.zerotrie_session.proofs.SessionLemmas.{performed_walked}
use Rattle.zerotrie_session.proofs.answer.Session.answer_walk.Goals as goal

pub returns-in-None : goal.returns-in-None
returns-in-None c = (
  refl,
  λ s h named. absurd (
      let some : false ≡ true = rw c.in-None.is at (c.in_ok-walk.ensures.named.1 (λ auto. named (sym h.of ∙ auto))) in cc),
  refl,
  (ops_of c.args.ops.now, refl),
)

pub returns-in_ok-write_walk-in-Some : goal.returns-in_ok-write_walk-in-Some
returns-in_ok-write_walk-in-Some c = λ s h.
    performed_walked c.args.self.now s c.args.ops.now c.in-Some.answers.items (string_bytes c.args.output.now) (string_bytes c.write_walk.new.output) h
    (c.in_ok-walk.ensures.named.0 (rw c.in-Some.is refl)) (rw c.in-Some.is at c.in_ok-walk.ensures.walk) (rw c.as_slice.ensures.value at c.in_ok-write_walk-in-Some.ensures)
