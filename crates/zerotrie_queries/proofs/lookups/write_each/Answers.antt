use Rattle.std.proofs.Common.{◌∷◌, [], ◌∙◌, refl, sym, take, get_or, subst, arith}
use Rattle.std.proofs.lemmas.List.{take_all, length-map}
use Rattle.zerotrie_queries.specs.Finders.{Finds}
use Rattle.zerotrie_queries.specs.Answers.{AreAnswered, IsAdded}
use Rattle.zerotrie_queries.proofs.FoundLemmas.{nows, no_key}
use Rattle.zerotrie_queries.proofs.PartLemmas.{on_err}
use Rattle.zerotrie_queries.proofs.AnswerLemmas.{none_answered, next_text, one_answered, more_answered, begun_done, begun_next}
use Rattle.zerotrie_queries.proofs.lookups.write_each.Goals as goal

pub loop-text-init : goal.loop-text-init
loop-text-init g c = (none_answered c.args.query (Finds c.args.finder.now c.args.query.asked) (g.W.Write.contents c.args.output.now.inner), refl)

pub loop-text-preserved : goal.loop-text-preserved
loop-text-preserved g c =
    let contents = g.W.Write.contents in
    let query = c.args.query in
    let Has = Finds c.args.finder.now query.asked in
    let texts = c.args.texts.now in
    let i = c.loop-text.text-index in
    let text = get_or texts i no_key in
    let found = c.in_ok-all.field-0 in
    let added = subst (λ l. IsAdded query Has text.now c.clear.new.self.items l found) (sym c.as_slice.ensures.value) c.in_ok-all.ensures in
    let one = one_answered query Has text.now c.clear.new.self.items c.as_slice.result.now found (contents c.loop-text.output.inner) (contents c.write_bytes.new.self.inner) c.clear.ensures.items added c.in_ok-write_bytes.ensures.all in
    let both = more_answered query Has (take i (nows texts)) (text.now ∷ []) (contents c.args.output.now.inner) (contents c.loop-text.output.inner) (contents c.write_bytes.new.self.inner) c.loop-text.all found c.loop-text.invariant.0 one in
    (rw (next_text texts i (omega arith)) both, c.in_ok-write_bytes.ensures.noted ∙ c.loop-text.invariant.1)

pub returns-clause-answered : goal.returns-clause-answered
returns-clause-answered g c =
    let texts = c.args.texts.now in
    let long = length-map texts (λ t. t.now) in
    subst (λ t. AreAnswered c.args.query (Finds c.args.finder.now c.args.query.asked) t (g.W.Write.contents c.args.output.now.inner) (g.W.Write.contents c.loop-text.output.inner) c.loop-text.all)
    (take_all c.loop-text.text-index (nows texts) (omega arith)) c.loop-text.invariant.0

pub returns-in_err-all-clause-part : goal.returns-in_err-all-clause-part
returns-in_err-all-clause-part g c = on_err c.from_residual.result
    (begun_done c.args.query (Finds c.args.finder.now c.args.query.asked) (nows c.args.texts.now) c.loop-text.text-index _ _ c.loop-text.all c.loop-text.invariant.0)

pub returns-in_err-write_bytes-clause-part : goal.returns-in_err-write_bytes-clause-part
returns-in_err-write_bytes-clause-part g c =
    let texts = c.args.texts.now in
    let i = c.loop-text.text-index in
    let text = get_or texts i no_key in
    let found = c.in_ok-all.field-0 in
    let added = subst (λ l. IsAdded c.args.query (Finds c.args.finder.now c.args.query.asked) text.now c.clear.new.self.items l found) (sym c.as_slice.ensures.value) c.in_ok-all.ensures in
    on_err c.from_residual-in_err-write_bytes.result
    (begun_next c.args.query (Finds c.args.finder.now c.args.query.asked) (nows texts) i text.now c.clear.new.self.items c.as_slice.result.now found _ _ _ c.loop-text.all (next_text texts i (omega arith))
    c.clear.ensures.items added c.in_err-write_bytes.ensures.part c.loop-text.invariant.0)
