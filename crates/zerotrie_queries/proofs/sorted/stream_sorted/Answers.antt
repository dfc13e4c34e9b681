use Rattle.std.proofs.Common.{subst, sym}
use Rattle.zerotrie_core.specs.Kinds.{kind_of}
use Rattle.zerotrie_core.specs.WellFormed.{IsWellFormed}
use Rattle.zerotrie_queries.proofs.sorted.stream_sorted.Goals as goal

pub new-requires : goal.new-requires
new-requires c =
    let pairs = c.in_ok-pairs.pairs in
    subst (λ kind. IsWellFormed kind pairs.bytes) (sym c.in_ok-pairs.ensures.kind)
    (subst (λ bytes. IsWellFormed (kind_of c.args.trie.now.kind) bytes) (sym c.in_ok-pairs.ensures.bytes) c.requires)
