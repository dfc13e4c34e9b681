use Rattle.std.proofs.Common.{subst, sym}
use Rattle.zerotrie_lines.specs.Escapes.{Spells}
use Rattle.zerotrie_queries.proofs.AnswerLemmas.{plain_at, escaped_at}
use Rattle.zerotrie_queries.proofs.lookups.add_queried_at.Goals as goal

pub returns-in_ok-found-in-Plain-clause-added : goal.returns-in_ok-found-in-Plain-clause-added
returns-in_ok-found-in-Plain-clause-added g c = plain_at (g.S.ReadAt.MayHold c.args.index.now) c.args.query c.args.text.now c.args.line.now.items c.add_answer_at.new.line.items c.in_ok-found-in-Plain.found
    c.in-Plain.is c.in_ok-found-in-Plain.ensures.added

pub returns-in_ok-found-in-Escaped-clause-added : goal.returns-in_ok-found-in-Escaped-clause-added
returns-in_ok-found-in-Escaped-clause-added g c =
    let text = c.args.text.now in
    let key = c.as_slice-key.result.now in
    let spells = subst (Spells text) (sym c.as_slice-key.ensures.value) (c.in_ok-unescape-in-Escaped.ensures.yes c.if-not-branch.false) in
    escaped_at (g.S.ReadAt.MayHold c.args.index.now) c.args.query text key c.args.line.now.items c.add_answer_at-in-Escaped.new.line.items c.in_ok-found-in-Escaped.found c.in-Escaped.is spells c.in_ok-found-in-Escaped.ensures.added
