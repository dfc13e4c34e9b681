use Rattle.std.proofs.Common.{◌≡◌, drop}
use Rattle.std.specs.Prelude.{◌==◌}
use Rattle.std.specs.List.{list_all}
use Rattle.zerotrie_core.specs.Kind.{tag}
use Rattle.zerotrie_core.specs.Kinds.{kind_of}
use Rattle.zerotrie_making.proofs.combine.kind_kept.Given as goal

abbrev pub invariant-loop-trie : goal.invariant-loop-trie
invariant-loop-trie l = list_all (λ t. tag (kind_of t.kind) == tag (kind_of l.first.kind)) (drop l.trie-index l.others)
    ≡ list_all (λ t. tag (kind_of t.kind) == tag (kind_of l.first.kind)) l.others
