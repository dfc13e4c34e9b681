use Rattle.std.proofs.Common.{rules, ◌≡◌, true, false}
use Rattle.std.proofs.lemmas.Result.{IfOk-weaker}
use Rattle.zerotrie_queries.specs.Sorted.{is_prefix_alone}
use Rattle.zerotrie_queries.specs.Pairs.{AreChosenValid, left_of_chosen}
use Rattle.zerotrie_queries.proofs.GivenLemmas.{gives_else, gives_prefix}
use Rattle.zerotrie_queries.proofs.listing.listed.stored.Goals as goal

pub returns-then-not-is_prefix_alone : goal.returns-then-not-is_prefix_alone
returns-then-not-is_prefix_alone c =
    let trie = c.args.trie.now in
    let other : is_prefix_alone c.args.choice ≡ false = search rules in
    IfOk-weaker c.sorted.result _ _ (λ s. gives_else AreChosenValid left_of_chosen trie.kind c.args.choice other trie.bytes.now s) c.sorted.ensures

pub returns : goal.returns
returns c =
    let trie = c.args.trie.now in
    let alone : is_prefix_alone c.args.choice ≡ true = search rules in
    let is : c.is_prefix_alone.result ≡ true = search rules in
    gives_prefix trie.kind c.args.choice alone (c.is_prefix_alone.ensures.chosen is trie.kind) trie.bytes.now c.in_ok-pairs.pairs.left c.in_ok-pairs.ensures.lists
