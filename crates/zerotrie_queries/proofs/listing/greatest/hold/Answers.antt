use Rattle.std.proofs.Common.{rules, ◌≡◌, ◌∙◌, ◌++◌, ◌∷◌, [], ap}
use Rattle.zerotrie_queries.specs.Ranked.{greatest, held_pairs}
use Rattle.zerotrie_queries.proofs.RankLemmas.{first_held, one_held}
use Rattle.zerotrie_queries.proofs.listing.greatest.hold.Goals as goal

pub returns-in_ok-keep_greatest : goal.returns-in_ok-keep_greatest
returns-in_ok-keep_greatest c = λ rest.
    let most = c.args.most in
    let pushed : c.push.new.self.items ≡ c.args.held.now.items ++ (c.in_ok-copied.field-0, c.args.value) ∷ [] = search rules in
    let copied : c.in_ok-copied.field-0.items ≡ c.args.key.now = search rules in
    first_held most (held_pairs c.push.new.self.items) (held_pairs c.keep_greatest.new.held.items) rest c.in_ok-keep_greatest.ensures
    ∙ ap (λ l. greatest most (held_pairs l ++ rest)) pushed ∙ one_held most c.args.held.now.items c.in_ok-copied.field-0 c.args.value rest
    ∙ ap (λ key. greatest most (held_pairs c.args.held.now.items ++ (key, c.args.value) ∷ rest)) copied
