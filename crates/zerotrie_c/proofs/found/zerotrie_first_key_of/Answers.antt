use Rattle.std.proofs.Common.{inl, inr, refl, subst, sym, None}
use Rattle.zerotrie_core.specs.Kinds.{kind_of}
use Rattle.zerotrie_core.specs.Texts.{Lists}
use Rattle.zerotrie_c.specs.Found.{IsKeyTold}
use Rattle.zerotrie_c.proofs.found.zerotrie_first_key_of.Goals as goal

pub returns-in-Ok-clause-known : goal.returns-in-Ok-clause-known
returns-in-Ok-clause-known c =
    rw c.in-Some.ensures.kind (λ pairs lists.
    let here = subst (λ b. Lists (kind_of c.in-Some.trie.kind) b pairs) (sym c.in-Some.ensures.bytes) lists in
    let h = c.hand_out_key in
    inl (subst (λ f. IsKeyTold f h.result c.args.key_len.now h.new.key_len c.args.out.now h.new.room) (c.in-Ok.ensures.first pairs here) h.ensures))

pub returns-in-Ok-clause-any : goal.returns-in-Ok-clause-any
returns-in-Ok-clause-any c = rw c.in-Some.ensures.kind (_, inl c.hand_out_key.ensures)

pub returns-in-Err-clause-any : goal.returns-in-Err-clause-any
returns-in-Err-clause-any c = rw c.in-Some.ensures.kind (None, inr (refl, refl, refl))
