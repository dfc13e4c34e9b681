use Rattle.std.proofs.Common.{inr, rules}
use Rattle.zerotrie_words.proofs.SearchLemmas.{name_is, taken_name}
use Rattle.zerotrie_words.proofs.options.CodeOptions.question.Goals as goal

pub returns-in-Some-clause-refused : goal.returns-in-Some-clause-refused
returns-in-Some-clause-refused c =
    let same = name_is c.args.self.now c.in_ok-language.language c.unwrap_or-name.result c.usual_name.result
    (search rules) (search rules) in
    inr (
      c.in_ok-language.language,
      c.in_ok-language.ensures.word,
      inr (taken_name c.args.self.now _ c.unwrap_or-name.result c.in-Some.misuse same c.in-Some.ensures.some),
    )
