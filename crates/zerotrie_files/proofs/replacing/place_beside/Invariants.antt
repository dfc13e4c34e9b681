use Rattle.std.proofs.Common.{◌≡◌, ◌⊎◌, ℕ, List, []}
use Rattle.zerotrie_files.specs.Deeds.{Did}
use Rattle.zerotrie_files.specs.Disks.{Known, Stays}
use Rattle.zerotrie_files.specs.Stores.{IsBeside}
use Rattle.zerotrie_files.proofs.replacing.place_beside.Given as goal

-- no file changed and nothing was done: each path that was tried is taken, the last one among them
abbrev pub invariant-loop-tried : goal.invariant-loop-tried
invariant-loop-tried g l = record {
  story : Known (g.D.Disk.story l.initial.disk) (g.D.Disk.story l.disk) Stays;
  deeds : Did [] (g.D.Disk.deeds l.initial.disk) (g.D.Disk.deeds l.disk);
  taken : (l.tried ≡ 0) ⊎ ((beside : List ℕ) × IsBeside l.path beside × g.D.Disk.is_taken l.disk beside);
}
