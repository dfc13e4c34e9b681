use Rattle.std.proofs.Common.{◌≡◌, length}
use Rattle.zerotrie_base.specs.Kind.{simple_ascii}
use Rattle.zerotrie_base.specs.Maps.{Pairs, value_at}
use Rattle.zerotrie_index.specs.Layout.{AreRecords}
use Rattle.zerotrie_index.proofs.reader.find_in.Given as goal

abbrev pub invariant-loop-record : goal.invariant-loop-record
invariant-loop-record l = (pairs : Pairs) → AreRecords pairs l.records → (left : Pairs) × AreRecords left l.rest
    × (value_at simple_ascii pairs l.key ≡ value_at simple_ascii left l.key)

abbrev pub decreases-loop-record : goal.decreases-loop-record
decreases-loop-record l = length l.rest
