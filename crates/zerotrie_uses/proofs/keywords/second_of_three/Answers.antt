use Rattle.std.proofs.Common.{Ok}
use Rattle.zerotrie.specs.Kind.{simple_ascii}
use Rattle.zerotrie.specs.Routes.{any_order}
use Rattle.zerotrie.proofs.Builds.{build_of_array}
use Rattle.zerotrie.proofs.Found.{answered}
use Rattle.zerotrie_uses.proofs.keywords.second_of_three.Goals as goal

pub returns : goal.returns
returns c =
    let build = build_of_array 3 (λ k. k.now) simple_ascii (λ t. t.store.items) _ (Ok c.in_ok-trie.trie) c.in_ok-trie.ensures in
    (answered any_order build c.get.ensures).value
