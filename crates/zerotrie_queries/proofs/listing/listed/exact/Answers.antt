use Rattle.std.proofs.lemmas.Result.{IfOk-weaker}
use Rattle.zerotrie_queries.specs.Sorted.{picked}
use Rattle.zerotrie_queries.specs.declared.question.Order.TheVariants.{ByBytes, Nearest}
use Rattle.zerotrie_queries.specs.Pairs.{AreChosenValid, left_of_chosen}
use Rattle.zerotrie_queries.proofs.GivenLemmas.{gives_same}
use Rattle.zerotrie_queries.proofs.NearLemmas.{exact_picked}
use Rattle.zerotrie_queries.proofs.listing.listed.exact.Goals as goal

pub returns : goal.returns
returns c =
    let trie = c.args.trie.now in
    IfOk-weaker c.sorted.result _ _
    (λ s. gives_same AreChosenValid left_of_chosen (picked ByBytes trie.kind c.args.choice) (picked Nearest trie.kind c.args.choice) trie.kind trie.bytes.now s (λ pairs lists. exact_picked trie.kind c.args.choice c.requires.exact pairs))
    c.sorted.ensures
