use Rattle.zerotrie_queries.specs.Listed.{first_picked}
use Rattle.zerotrie_queries.specs.Pairs.{AreFirstValid, left_of_first}
use Rattle.zerotrie_queries.proofs.ChoiceLemmas.{if_none_weaker, if_some_weaker}
use Rattle.zerotrie_queries.proofs.GivenLemmas.{printable_all, unprintable_in}
use Rattle.zerotrie_queries.proofs.PrintableLemmas.{any_printable}
use Rattle.zerotrie_queries.proofs.listing.first_unprintable.Goals as goal

pub returns-then-takes_all_keys-clause-none : goal.returns-then-takes_all_keys-clause-none
returns-then-takes_all_keys-clause-none c = λ pairs lists. any_printable c.args.form (c.takes_all_keys.ensures c.if-takes_all_keys.true) (first_picked c.args.selection c.args.trie.now.kind pairs)

pub returns-clause-some : goal.returns-clause-some
returns-clause-some c =
    let trie = c.args.trie.now in
    if_some_weaker c.first_unprintable_of.result
    (λ k h. unprintable_in AreFirstValid left_of_first c.args.form c.args.selection trie.kind trie.bytes.now c.in_ok-pairs.pairs k.items c.in_ok-pairs.ensures h)
    c.first_unprintable_of.ensures.some

pub returns-clause-none : goal.returns-clause-none
returns-clause-none c =
    let trie = c.args.trie.now in
    if_none_weaker c.first_unprintable_of.result
    (λ h. printable_all AreFirstValid left_of_first c.args.form c.args.selection trie.kind trie.bytes.now c.in_ok-pairs.pairs c.in_ok-pairs.ensures h)
    c.first_unprintable_of.ensures.none
