use Rattle.zerotrie.specs.Items.{pairs_of}
use Rattle.zerotrie.specs.Routes.{ascending}
use Rattle.zerotrie.proofs.Found.{ExactAnswer, answered, exactly}
use Rattle.zerotrie_uses.proofs.keyword.find_keyword.Goals as goal

answer : (c : goal.After-drop-trie) → ExactAnswer (pairs_of c.args.pairs.now) c.args.word.now c.get.result
answer c = exactly (answered ascending c.in_ok-trie.ensures c.get.ensures) tt

pub returns-clause-present : goal.returns-clause-present
returns-clause-present c = (answer c).present

pub returns-clause-exact : goal.returns-clause-exact
returns-clause-exact c = (answer c).exactly
