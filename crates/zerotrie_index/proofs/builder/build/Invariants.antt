use Rattle.std.proofs.Common.{ℕ, ◌+◌, ◌*◌, ◌%◌, ◌^◌, ◌<◌}
use Rattle.zerotrie_base.specs.Items.{keyed}
use Rattle.zerotrie_index.specs.Hash.{golden}
use Rattle.zerotrie_index.specs.Built.{bucket_count, IsCrowded}
use Rattle.zerotrie_index.proofs.builder.build.Given as goal

abbrev pub invariant-loop-tried : goal.invariant-loop-tried
invariant-loop-tried g l = (k : ℕ) → k < l.tried
    → IsCrowded ((l.seed + k * golden) % 2 ^ 64) (bucket_count (keyed g.K.TrieKey.key l.items)) (keyed g.K.TrieKey.key l.items)
