use Rattle.std.proofs.Common.{◌≡◌, ◌/◌, ◌%◌, ◌^◌, ◌++◌, map, take}
use Rattle.zerotrie_core.proofs.plain.nodes.push_block.Given as goal

abbrev pub invariant-loop-offset : goal.invariant-loop-offset
invariant-loop-offset l = l.out.items ≡ l.initial.out.items ++ map (λ o. o / 256 ^ l.place % 256) (take l.offset-index l.offsets)
