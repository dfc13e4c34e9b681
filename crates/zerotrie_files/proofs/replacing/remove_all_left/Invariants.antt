use Rattle.std.proofs.Common.{[]}
use Rattle.zerotrie_files.specs.Deeds.{Did}
use Rattle.zerotrie_files.specs.Disks.{Known}
use Rattle.zerotrie_files.specs.Stores.{Clears}
use Rattle.zerotrie_files.proofs.replacing.remove_all_left.Given as goal

-- some of the files that were left are gone
abbrev pub invariant-loop-own : goal.invariant-loop-own
invariant-loop-own g l = record {
  story : Known (g.D.Disk.story l.initial.disk) (g.D.Disk.story l.disk) (Clears l.path);
  deeds : Did [] (g.D.Disk.deeds l.initial.disk) (g.D.Disk.deeds l.disk);
}
