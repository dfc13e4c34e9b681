use Rattle.std.proofs.Common.{Ok}
use Rattle.zerotrie.specs.Flavors.{flavor_kind}
use Rattle.zerotrie.specs.Items.{pairs_of}
use Rattle.zerotrie.specs.Routes.{any_order}
use Rattle.zerotrie.proofs.Builds.{auto_build_of_copies}
use Rattle.zerotrie.proofs.Found.{ExactAnswer, answered, auto_keeps, exactly, get_by_kind}
use Rattle.zerotrie_uses.proofs.keywords.find_word.Goals as goal

answer : (c : goal.After-drop-trie) → ExactAnswer (pairs_of c.args.pairs.now) c.args.word.now c.get.result
answer c =
    let build =
    auto_build_of_copies (λ k. k.now) (λ t. flavor_kind t.flavor) (λ t. t.store.items) (Ok c.in_ok-trie.trie) c.args.pairs.now c.iter.result c.copied.result
    c.iter.ensures.rest c.iter.ensures.runs c.copied.ensures.runs c.in_ok-trie.ensures in
    let get = get_by_kind c.in_ok-trie.trie.store.items c.args.word.now c.get.result build.0 c.get.ensures in
    exactly (answered any_order build.1 get) (auto_keeps (pairs_of c.args.pairs.now))

pub returns-clause-present : goal.returns-clause-present
returns-clause-present c = (answer c).present

pub returns-clause-exact : goal.returns-clause-exact
returns-clause-exact c = (answer c).exactly
