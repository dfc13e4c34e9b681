use Rattle.std.proofs.Common.{◌≡◌, ℕ, ◌+◌, ◌^◌, ◌<◌, List, ◌++◌, length, drop}
use Rattle.zerotrie_index.specs.Layout.{AreRecords}
use Rattle.zerotrie_index.specs.Hashed.{hashed_pairs}
use Rattle.zerotrie_index.specs.Built.{records_size}
use Rattle.zerotrie_index.proofs.builder.put_records.Given as goal

abbrev pub invariant-loop-pair : goal.invariant-loop-pair
invariant-loop-pair g l = record {
  written : (written : List ℕ) × (l.pool.items ≡ l.initial.pool.items ++ written)
      × ((rest : List ℕ) → AreRecords (hashed_pairs (drop l.pair-index l.bucket)) rest → AreRecords (hashed_pairs l.bucket) (written ++ rest));
  small : length l.pool.items < 2 ^ 32;
  size : length l.pool.items + records_size (hashed_pairs (drop l.pair-index l.bucket)) ≡ length l.initial.pool.items + records_size (hashed_pairs l.bucket);
}
