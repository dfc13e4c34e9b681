use Rattle.zerotrie_queries.specs.Kept.{keeps, may_keep}
use Rattle.zerotrie_queries.specs.Pairs.{IsValid, left_of}
use Rattle.zerotrie_queries.specs.Sorted.{picked}
use Rattle.zerotrie_queries.specs.declared.question.Order.TheVariants.{ByBytes}
use Rattle.zerotrie_queries.proofs.GivenLemmas.{gives_all, gives_kept}
use Rattle.zerotrie_queries.proofs.listing.listed.sorted.Goals as goal

pub returns : goal.returns
returns c =
    let trie = c.args.trie.now in
    gives_kept IsValid left_of trie.kind c.args.choice (may_keep keeps c.condition_of-condition.result) c.condition_of-condition.ensures c.bounds-part.result c.bounds-part.ensures trie.bytes.now c.in_ok-pairs-2.pairs c.in_ok-pairs-2.ensures

pub returns-then-is_none : goal.returns-then-is_none
returns-then-is_none c =
    let trie = c.args.trie.now in
    gives_all IsValid left_of (picked ByBytes trie.kind c.args.choice) trie.kind trie.bytes.now c.in_ok-pairs.pairs c.in_ok-pairs.ensures
