use Rattle.std.proofs.Common.{Ok}
use Rattle.std.specs.String.{string_bytes}
use Rattle.zerotrie.specs.Kind.{perfect_hash}
use Rattle.zerotrie.specs.Routes.{any_order}
use Rattle.zerotrie.proofs.Builds.{build_of_vec}
use Rattle.zerotrie.proofs.Found.{answered, exactly}
use Rattle.zerotrie_uses.proofs.keywords.find_owned.Goals as goal

pub returns : goal.returns
returns c =
    let build = build_of_vec (λ key. string_bytes key) perfect_hash (λ t. t.store.items) c.args.pairs (Ok c.in_ok-trie.trie) c.in_ok-trie.ensures in
    (exactly (answered any_order build c.get.ensures) tt).exactly
