use Rattle.std.proofs.Common.{subst, sym}
use Rattle.std.specs.Range.Bound.{bound_map}
use Rattle.zerotrie_queries.specs.Chosen.{AreBelow}
use Rattle.zerotrie_queries.specs.Pairs.{AreChosenValid, left_of_chosen}
use Rattle.zerotrie_queries.specs.Sorted.{picked}
use Rattle.zerotrie_queries.proofs.FoldLemmas.{words_folded}
use Rattle.zerotrie_queries.proofs.GivenLemmas.{gives_first}
use Rattle.zerotrie_queries.proofs.listing.listed.listed.Goals as goal

pub ordered-requires-clause-folded : goal.ordered-requires-clause-folded
ordered-requires-clause-folded c = words_folded c.args.trie.now.kind c.args.selection.choice c.args.words.now c.in_place_of-folded.result c.requires c.in_place_of-folded.ensures

pub ordered-requires-clause-above : goal.ordered-requires-clause-above
ordered-requires-clause-above c =
    subst (λ prefix. AreBelow prefix (bound_map (λ b. b.now) c.above.result)) (sym c.in_place_of-folded.ensures.prefix)
    (subst (AreBelow c.args.words.now.prefix.items) (sym c.above.ensures) c.requires.above)

pub returns : goal.returns
returns c =
    gives_first AreChosenValid left_of_chosen c.args.trie.now.kind c.args.selection c.args.words.now c.in_place_of-folded.result c.args.trie.now.bytes.now c.in_ok-topped.field-0 c.requires c.in_place_of-folded.ensures
    (c.in_ok-topped.ensures (picked c.args.selection.order c.args.trie.now.kind c.in_place_of-folded.result) c.args.trie.now.kind c.args.trie.now.bytes.now c.in_ok-pairs.ensures)
