use Rattle.std.proofs.Common.{◌≡◌, ℕ, ◌^◌, ◌<◌, ◌≤◌, length, take, drop, All}
use Rattle.zerotrie_index.specs.Layout.{place_of}
use Rattle.zerotrie_index.specs.Hashed.{hashed_pairs, IsHashed}
use Rattle.zerotrie_index.specs.Built.{records_size}
use Rattle.zerotrie_index.proofs.WrittenLemmas.{Filled}
use Rattle.zerotrie_index.proofs.builder.put_buckets.Given as goal

abbrev pub invariant-loop-number : goal.invariant-loop-number
invariant-loop-number g l = record {
  within : l.at ≤ length l.hashed;
  filled : (seed : ℕ) → All (IsHashed seed) l.hashed
      → Filled seed l.count l.number (hashed_pairs (take l.at l.hashed)) l.initial.table.items l.table.items l.pool.items;
  small : length l.pool.items < 2 ^ 32;
  size : length l.pool.items ≡ records_size (hashed_pairs (take l.at l.hashed));
  later : All (λ h. l.number ≤ place_of l.count h.hash) (drop l.at l.hashed);
}
