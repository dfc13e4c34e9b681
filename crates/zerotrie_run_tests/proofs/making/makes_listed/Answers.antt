use Rattle.std.proofs.Common.{subst}
use Rattle.std.specs.Prelude.{IfErr, IfOk}
use Rattle.zerotrie_making.specs.Made.{Explains, IsMade}
use Rattle.zerotrie_run_tests.proofs.MakingLemmas.{listed_pairs, listed_same}
use Rattle.zerotrie_run_tests.proofs.making.makes_listed.Goals as goal

pub returns-clause-same : goal.returns-clause-same
returns-clause-same c =
    let text = c.in_ok-text.text.items in
    let made = subst (λ plan. IfOk c.make.result (IsMade plan text)) c.plan_of.ensures c.make.ensures.ok in
    listed_same c.listed_is_made_again.ensures c.args.kind c.args.bytes.now text c.make.result c.in_ok-text.ensures.ok made

pub returns-clause-read : goal.returns-clause-read
returns-clause-read c =
    let text = c.in_ok-text.text.items in
    let why = subst (λ plan. IfErr c.make.result (λ e. Explains plan text e)) c.plan_of.ensures c.make.ensures.err in
    listed_pairs c.lines_read_back.ensures c.bad_is_unread.ensures c.args.kind c.args.bytes.now text c.make.result c.in_ok-text.ensures.ok why
