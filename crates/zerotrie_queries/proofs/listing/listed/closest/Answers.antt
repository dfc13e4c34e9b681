use Rattle.std.proofs.Common.{rules, ◌<◌, ◌^◌, length, subst, sym}
use Rattle.std.proofs.lemmas.Result.{IfOk-weaker}
use Rattle.std.specs.Range.Bound.{bound_map}
use Rattle.zerotrie_queries.specs.Chosen.{AreBelow, IsFolded}
use Rattle.zerotrie_queries.specs.Sorted.{picked}
use Rattle.zerotrie_queries.specs.declared.question.Order.TheVariants.{ByBytes, Closest}
use Rattle.zerotrie_queries.specs.Pairs.{AreChosenValid, left_of_chosen}
use Rattle.zerotrie_queries.proofs.FoldLemmas.{closest_is, folded_at}
use Rattle.zerotrie_queries.proofs.GivenLemmas.{gives_same}
use Rattle.zerotrie_queries.proofs.listing.listed.closest.Goals as goal

pub sorted-requires-clause-folded : goal.sorted-requires-clause-folded
sorted-requires-clause-folded c = subst (IsFolded c.args.trie.now.kind) (sym c.with_edits.ensures) (folded_at c.args.trie.now.kind c.in_ok-edits.edits c.args.choice c.requires.folded)

pub sorted-requires-clause-above : goal.sorted-requires-clause-above
sorted-requires-clause-above c = subst (λ d. AreBelow d.prefix.now (bound_map (λ b. b.now) c.args.above)) (sym c.with_edits.ensures) c.requires.above

pub returns : goal.returns
returns c =
    let trie = c.args.trie.now in
    let d = c.with_edits.result in
    let short : length trie.bytes.now < 2 ^ 64 = search rules in
    let same = closest_is trie.kind c.args.choice d c.in_ok-edits.edits trie.bytes.now short c.with_edits.ensures c.in_ok-edits.ensures in
    IfOk-weaker c.sorted.result _ _
    (λ s. gives_same AreChosenValid left_of_chosen (picked ByBytes trie.kind d) (picked Closest trie.kind c.args.choice) trie.kind trie.bytes.now s same)
    c.sorted.ensures
