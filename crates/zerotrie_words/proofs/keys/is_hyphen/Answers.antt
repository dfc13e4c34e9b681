use Rattle.std.proofs.Common.{rules, ◌≡◌, ◌∷◌, [], ◌∙◌, codes, length, map, ap}
use Rattle.std.proofs.lemmas.List.{nil_from_length}
use Rattle.zerotrie_words.proofs.keys.is_hyphen.Goals as goal

pub returns-then-is_empty-clause-yes : goal.returns-then-is_empty-clause-yes
returns-then-is_empty-clause-yes c = λ same.
    let first : c.args.words.now ≡ c.in-Some.word.now ∷ c.in-Some.rest.now = search rules in
    let len : length c.in-Some.rest.now ≡ 0 = search rules in
    let none = nil_from_length c.in-Some.rest.now len in
    let is : c.in-Some.word.now.now ≡ codes "-" = search rules in
    ap (map (λ word. word.now)) (first ∙ ap (λ rest. c.in-Some.word.now ∷ rest) none) ∙ ap (λ word. word ∷ []) is
