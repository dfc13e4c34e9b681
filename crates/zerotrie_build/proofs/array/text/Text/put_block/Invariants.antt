use Rattle.std.proofs.Common.{◌≡◌, ◌-◌, ◌≤◌, ◌/◌, ◌%◌, ◌^◌, length, take, map}
use Rattle.std.specs.List.{range_with_len}
use Rattle.zerotrie_base.specs.Branches.{total}
use Rattle.zerotrie_build.specs.array.Texts.{Prepends, newest_first, lens_of}
use Rattle.zerotrie_build.proofs.array.text.Text.put_block.Given as goal

abbrev pub invariant-loop-index : goal.invariant-loop-index
invariant-loop-index l = record {
  end : l.end ≡ total (take (length l.siblings - (l.index - 1)) (lens_of (newest_first l.siblings)));
  puts : Prepends l.initial.self l.self
      (map (λ o. o / 256 ^ l.fn.place % 256) (map (λ i. total (take i (lens_of (newest_first l.siblings)))) (range_with_len (length l.siblings - (l.index - 1)) (l.index - 1))));
  in_range : l.index - 1 ≤ length l.siblings - 1;
}
