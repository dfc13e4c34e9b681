use Rattle.std.proofs.Common.{◌≡◌, ◌*◌, ◌-◌, ◌<◌, ◌^◌, length}
use Rattle.zerotrie_base.specs.Nodes.{number_from}
use Rattle.zerotrie_core.proofs.offsets.long_offset_at.Given as goal

abbrev pub invariant-loop-block : goal.invariant-loop-block
invariant-loop-block l = record {
  bound : l.value < 256 ^ l._block;
  len : length l.rest ≡ (l.width - l._block) * l.count;
  same : number_from l.value (l.width - l._block) l.count l.place l.rest ≡ number_from 0 l.width l.count l.place l.table;
}
