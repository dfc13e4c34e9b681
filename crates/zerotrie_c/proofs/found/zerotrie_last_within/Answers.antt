use Rattle.std.proofs.Common.{inl, inr, refl, subst, sym, None}
use Rattle.zerotrie_core.specs.Kinds.{kind_of}
use Rattle.zerotrie_core.specs.Texts.{Means}
use Rattle.zerotrie_c.specs.Found.{IsPairTold}
use Rattle.zerotrie_c.proofs.found.zerotrie_last_within.Goals as goal

pub returns-in-Ok-clause-known : goal.returns-in-Ok-clause-known
returns-in-Ok-clause-known c =
    rw c.in-Some.ensures.kind (rw (sym c.in-Some-bounds_with.ensures) (λ m means.
    let here = subst (λ b. Means (kind_of c.in-Some.trie.kind) b m) (sym c.in-Some.ensures.bytes) means in
    let h = c.hand_out_pair in
    inl (subst (λ f. IsPairTold f h.result c.args.key_len.now h.new.key_len c.args.value.now h.new.value c.args.out.now h.new.room) (c.in-Ok.ensures m here) h.ensures)))

pub returns-in-Ok-clause-any : goal.returns-in-Ok-clause-any
returns-in-Ok-clause-any c = rw c.in-Some.ensures.kind (rw (sym c.in-Some-bounds_with.ensures) (_, inl c.hand_out_pair.ensures))

pub returns-in-Err-clause-any : goal.returns-in-Err-clause-any
returns-in-Err-clause-any c = rw c.in-Some.ensures.kind (rw (sym c.in-Some-bounds_with.ensures) (None, inr (refl, refl, refl, refl)))
