use Rattle.std.proofs.Common.{ltb, rules}
use Rattle.std.proofs.lemmas.List.Sorted.{IsPartitionPoint-from_clause, IsPartitionedBy-ltb}
use Rattle.zerotrie_reverse.specs.Descent.{value_at}
use Rattle.zerotrie_reverse.proofs.TableLemmas.{parted}
use Rattle.zerotrie_reverse.proofs.places.first_from.Goals as goal

pub returns : goal.returns
returns c = λ sorted.
    parted (value_at c.args.bytes.now) c.args.places.now c.args.value c.partition_point.result
    (IsPartitionPoint-from_clause (λ y. ltb (value_at c.args.bytes.now y) c.args.value) c.args.places.now c.partition_point.result c.partition_point.ensures.partitioned
    (IsPartitionedBy-ltb (value_at c.args.bytes.now) c.args.places.now c.args.value sorted) (λ a r q k. search rules))
