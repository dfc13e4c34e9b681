-- The pairs of the builder are those that the trie lists.
use Rattle.std.proofs.Common.{◌≡◌, ◌++◌, ap, ◌∙◌, subst}
use Rattle.zerotrie_core.specs.listing.Listed.{listed}
use Rattle.zerotrie_index.specs.Built.{IsIndexBuild}
use Rattle.zerotrie_index.specs.Tries.{folded_pairs}
use Rattle.zerotrie_index.proofs.trie.ZeroIndex+Vec+u8.from_trie.Goals as goal

pub returns-clause-always : goal.returns-clause-always
returns-clause-always g c =
    let kind = g.K.ZeroTrieWithOptions.kind in
    let all : c.push_all.new.builder ≡ folded_pairs kind (listed kind c.args.bytes.now) =
    c.in_ok-push_all.ensures
    ∙ ap (λ b. b ++ folded_pairs kind c.new-stream.result.left.pairs) c.new-builder.ensures
    ∙ ap (λ left. folded_pairs kind left.pairs) c.new-stream.ensures.always in
    subst (λ ps. IsIndexBuild 0 (λ index. index.store.items) ps c.build.result) all c.build.ensures

pub returns-clause-map : goal.returns-clause-map
returns-clause-map g c = λ pairs lists.
    let kind = g.K.ZeroTrieWithOptions.kind in
    let all : c.push_all.new.builder ≡ folded_pairs kind pairs =
    c.in_ok-push_all.ensures
    ∙ ap (λ b. b ++ folded_pairs kind c.new-stream.result.left.pairs) c.new-builder.ensures
    ∙ ap (λ left. folded_pairs kind left.pairs) (c.new-stream.ensures.lists pairs lists) in
    subst (λ ps. IsIndexBuild 0 (λ index. index.store.items) ps c.build.result) all c.build.ensures
