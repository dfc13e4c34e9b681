use Rattle.std.proofs.Common.{◌∙◌, ap, rules}
use Rattle.zerotrie.proofs.Listings.{prefix_of_pairs}
use Rattle.zerotrie_uses.proofs.completion.complete.Goals as goal

pub loop-pair-init : goal.loop-pair-init
loop-pair-init c =
    let build = c.in_ok-trie.ensures in
    let listing = prefix_of_pairs c.args.prefix.now build.0 build.1 c.in_ok-pair-items.ensures.lists in
    let pairs = ap (λ it. it.pairs) (c.into_iter-pair-iterator.ensures.into_iter_gives ∙ listing) in
    search (rules, pairs)
