use Rattle.std.proofs.Common.{take, get_or, subst, arith}
use Rattle.std.proofs.lemmas.List.{take_all, length-map}
use Rattle.zerotrie_queries.specs.Answers.{AreAddedAt, IsAddedAt}
use Rattle.zerotrie_queries.proofs.FoundLemmas.{nows, no_key}
use Rattle.zerotrie_queries.proofs.AnswerLemmas.{next_text, none_at, more_at}
use Rattle.zerotrie_queries.proofs.lookups.add_answers_at.Goals as goal

pub loop-text-init : goal.loop-text-init
loop-text-init g c = (none_at (g.S.ReadAt.MayHold c.args.index.now) c.args.query c.args.lines.now.items, λ bytes may. may)

pub loop-text-preserved : goal.loop-text-preserved
loop-text-preserved g c =
    let held = g.S.ReadAt.MayHold c.args.index.now in
    let texts = c.args.texts.now in
    let i = c.loop-text.text-index in
    let text = get_or texts i no_key in
    let found = c.in_ok-all.field-0 in
    let one : IsAddedAt held c.args.query text.now c.loop-text.lines.items c.add_queried_at.new.line.items found = λ bytes may. c.in_ok-all.ensures.added bytes (c.loop-text.invariant.1 bytes may) in
    let both = more_at held c.args.query (take i (nows texts)) text.now c.args.lines.now.items c.loop-text.lines.items c.add_queried_at.new.line.items c.loop-text.all found c.loop-text.invariant.0 one in
    (rw (next_text texts i (omega arith)) both, λ bytes may. c.in_ok-all.ensures.same bytes (c.loop-text.invariant.1 bytes may))

pub returns-clause-added : goal.returns-clause-added
returns-clause-added g c =
    let texts = c.args.texts.now in
    let long = length-map texts (λ t. t.now) in
    subst (λ t. AreAddedAt (g.S.ReadAt.MayHold c.args.index.now) c.args.query t c.args.lines.now.items c.loop-text.lines.items c.loop-text.all)
    (take_all c.loop-text.text-index (nows texts) (omega arith)) c.loop-text.invariant.0
