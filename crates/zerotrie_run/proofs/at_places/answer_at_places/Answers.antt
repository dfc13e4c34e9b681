use Rattle.std.proofs.Common.{rules, ◌≡◌, ◌≢◌, None, true, subst, sym}
use Rattle.std.proofs.lemmas.Option.{IfSome_then}
use Rattle.zerotrie_queries.specs.Finders.{asks_keys}
use Rattle.zerotrie_run.specs.Runs.{IsAnswerText, IsOpenAt}
use Rattle.zerotrie_run.specs.declared.command.Check.TheVariants as check
use Rattle.zerotrie_run.specs.declared.command.Keys.TheVariants.{Words}
use Rattle.zerotrie_run.specs.declared.command.Question.TheVariants.{LookUp}
use Rattle.zerotrie_run.proofs.AtPlacesLemmas.{answer_text}
use Rattle.zerotrie_run.proofs.at_places.answer_at_places.Goals as goal

pub returns-in-Ok-clause-text : goal.returns-in-Ok-clause-text
returns-in-Ok-clause-text g c =
    let look = c.in-LookUp-default-Words in
    let is : c.args.question ≡ LookUp look.query (Words look.keys) = search rules in
    let plain : c.args.file.bare ≡ None = search rules in
    let some : c.args.file.check ≢ check.Full = search rules in
    let asks : asks_keys look.query.asked ≡ true = search rules in
    IfSome_then c.in-Ok.answer c.in-Ok.ensures (λ r looked story opens. subst (λ q. IsAnswerText c.args.file q story r.0.items r.1) (sym is)
    (answer_text g.F.OpenFile.held c.in-File.open c.args.file look.query look.keys story r.0.items r.1 plain some asks (subst (IsOpenAt g.F.OpenFile.held c.args.file.place story) c.in-File.is opens) looked))
