use Rattle.std.proofs.Common.{◌∙◌, ◌++◌, ap, subst, sym}
use Rattle.zerotrie_core.specs.Listings.{to_come}
use Rattle.zerotrie_base.specs.Maps.{with_run}
use Rattle.zerotrie_base.specs.Texts.{Lists}
use Rattle.zerotrie_core.proofs.ListingLemmas.Passed.{place_below}
use Rattle.zerotrie_core.proofs.stream.ZeroTrieStream.from_cursor.Goals as goal

pub returns-clause-grouped : goal.returns-clause-grouped
returns-clause-grouped g c pairs lists =
    let kind = g.K.ZeroTrieWithOptions.kind in
    let place = c.args.cursor in
    let b = place_below kind place.run place.trie pairs lists in
    c.behind.ensures.grouped b.0 (subst (λ t. Lists kind t b.0) (sym c.parts.ensures.trie) b.1)

pub returns-clause-lists : goal.returns-clause-lists
returns-clause-lists g c pairs lists =
    let kind = g.K.ZeroTrieWithOptions.kind in
    let place = c.args.cursor in
    let b = place_below kind place.run place.trie pairs lists in
    let text = subst (λ t. Lists kind t b.0) (sym c.parts.ensures.trie) b.1 in
    let front = c.in_ok-extend_from_slice.ensures.items ∙ ap (λ f. f ++ c.parts.result.0.now) c.new-front.ensures.items ∙ c.parts.ensures.run in
    c.behind.ensures.lists b.0 text ∙ ap (λ f. to_come (with_run f b.0)) front ∙ ap to_come (sym b.2)
