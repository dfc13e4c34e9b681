use Rattle.std.proofs.Common.{◌≡◌, ◌^◌, ◌<◌, ◌≤◌, take}
use Rattle.zerotrie_base.specs.Branches.{total}
use Rattle.zerotrie_build.specs.array.Texts.{newest_first, lens_of}
use Rattle.zerotrie_build.proofs.array.text.total.Given as goal

abbrev pub invariant-loop-sibling : goal.invariant-loop-sibling
invariant-loop-sibling l = record {
  exact : total (lens_of (newest_first (take l.sibling-index l.siblings))) < 2 ^ 64 → l.total ≡ total (lens_of (newest_first (take l.sibling-index l.siblings)));
  capped : 2 ^ 64 ≤ total (lens_of (newest_first (take l.sibling-index l.siblings))) → 2 ^ 32 ≤ l.total;
}
