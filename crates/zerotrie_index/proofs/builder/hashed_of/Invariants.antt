use Rattle.std.proofs.Common.{◌≡◌, take, All}
use Rattle.zerotrie_base.specs.Items.{keyed}
use Rattle.zerotrie_index.specs.Hashed.{hashed_pairs, IsHashed}
use Rattle.zerotrie_index.proofs.builder.hashed_of.Given as goal

abbrev pub invariant-loop-key : goal.invariant-loop-key
invariant-loop-key g l = record {
  pairs : hashed_pairs l.hashed.items ≡ keyed g.K.TrieKey.key (take l.key-index l.items);
  hashes : All (IsHashed l.seed) l.hashed.items;
}
