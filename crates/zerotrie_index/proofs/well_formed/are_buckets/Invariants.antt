use Rattle.std.proofs.Common.{◌↔◌}
use Rattle.zerotrie_index.specs.Valid.{AreRest}
use Rattle.zerotrie_index.proofs.well_formed.are_buckets.Given as goal

abbrev pub invariant-loop-number : goal.invariant-loop-number
invariant-loop-number l = AreRest l.seed l.count 0 l.initial.entry l.initial.table l.initial.pool ↔ AreRest l.seed l.count l.number l.entry l.table l.pool
