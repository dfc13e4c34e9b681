use Rattle.std.proofs.Common.{arith, sym, ◌∙◌, subst, inr}
use Rattle.std.proofs.lemmas.Result.{err_from_is_err_and}
use Rattle.zerotrie_base.specs.Items.{pairs_of}
use Rattle.zerotrie_base.specs.plain.Encoding.{Writes}
use Rattle.zerotrie_base.proofs.PlainLemmas.Refusals.{deep_none, ascii_keys, some_high, refusal_cause, written_built}
use Rattle.zerotrie_core.proofs.plain.plain_encode.Goals as goal

pub returns-then-not-are_ascii : goal.returns-then-not-are_ascii
returns-then-not-are_ascii c = inr (λ same. absurd (cc), some_high c.args.items.now (sym c.are_ascii.ensures ∙ c.if-not-are_ascii.true))

pub encode-requires-clause-deep : goal.encode-requires-clause-deep
encode-requires-clause-deep c = deep_none c.args.items.now

pub encode-requires-clause-ascii : goal.encode-requires-clause-ascii
encode-requires-clause-ascii c = ascii_keys c.args.items.now (sym c.are_ascii.ensures ∙ c.if-not-are_ascii.false)

pub returns-in_err-encode : goal.returns-in_err-encode
returns-in_err-encode c =
    let p = err_from_is_err_and c.from_residual.result c.from_residual.ensures.1 in
    rw (p.1, p.2) (refusal_cause (pairs_of c.args.items.now) _ (c.is_ascending.ensures.0 c.if-not-is_ascending.false) c.in_err-encode.ensures.err)

pub returns : goal.returns
returns c =
    let counted = c.encode.new.out.ok in
    let small = c.encode.new.out.small in
    let up = c.is_ascending.ensures.0 c.if-not-is_ascending.false in (
      up,
      written_built _ _ (omega arith) (subst (λ x. Writes x c.encode.new.out.items (pairs_of c.args.items.now)) c.new-text.ensures.items c.in_ok-encode.ensures.ok),
    )
