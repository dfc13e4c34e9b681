use Rattle.std.proofs.Common.{Ok}
use Rattle.zerotrie.specs.Items.{pairs_of}
use Rattle.zerotrie.specs.Kind.{ignore_case}
use Rattle.zerotrie.specs.Routes.{any_order}
use Rattle.zerotrie.proofs.Builds.{build_of_copies}
use Rattle.zerotrie.proofs.Found.{AnswerWithoutCase, answered, without_case}
use Rattle.zerotrie_uses.proofs.keywords.find_header.Goals as goal

answer : (c : goal.After-drop-trie) → AnswerWithoutCase (pairs_of c.args.pairs.now) c.args.name.now c.get.result
answer c =
    let build =
    build_of_copies (λ k. k.now) ignore_case (λ t. t.store.items) (Ok c.in_ok-trie.trie) c.args.pairs.now c.iter.result c.copied.result
    c.iter.ensures.rest c.iter.ensures.runs c.copied.ensures.runs c.in_ok-trie.ensures in
    without_case (answered any_order build c.get.ensures)

pub returns-clause-present : goal.returns-clause-present
returns-clause-present c = (answer c).present

pub returns-clause-absent : goal.returns-clause-absent
returns-clause-absent c = (answer c).absent

pub returns-clause-found : goal.returns-clause-found
returns-clause-found c = (answer c).found
