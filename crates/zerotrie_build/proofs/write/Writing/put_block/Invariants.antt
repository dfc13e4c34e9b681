use Rattle.std.proofs.Common.{◌≡◌, ◌-◌, ◌≤◌, ◌/◌, ◌%◌, ◌^◌, length, take, map}
use Rattle.std.specs.List.{range_with_len}
use Rattle.zerotrie_base.specs.Branches.{total}
use Rattle.zerotrie_build.specs.passes.Writes.{Writes}
use Rattle.zerotrie_build.specs.passes.Writing.{target_lens}
use Rattle.zerotrie_build.proofs.write.Writing.put_block.Given as goal

abbrev pub invariant-loop-index : goal.invariant-loop-index
invariant-loop-index g l = record {
  end : l.end ≡ total (take (l.index - 1) (target_lens l.lens l.numbers));
  puts : Writes l.initial.self l.self
      (map (λ o. o / 256 ^ l.fn.place % 256) (map (λ i. total (take i (target_lens l.lens l.numbers))) (range_with_len 1 (l.index - 1))));
  in_range : l.index - 1 ≤ length l.numbers - 1;
}
