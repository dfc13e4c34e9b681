use Rattle.std.proofs.Common.{◌≡◌, ◌≤◌, ◌+◌, drop, map, take}
use Rattle.zerotrie_files.specs.Notes.{SameReads}
use Rattle.zerotrie_run.specs.Combined.{AreRead}
use Rattle.zerotrie_run.specs.Runs.{streams}
use Rattle.zerotrie_run.proofs.making.read_all.Given as goal

abbrev pub invariant-loop-number : goal.invariant-loop-number
invariant-loop-number g l = record {
  read : AreRead (take l.number l.places) (g.R.Read.remaining l.initial.input.inner) (g.D.Disk.story l.initial.files.disk) (map (λ bytes. bytes.items) l.held.items);
  same : l.files.disk ≡ l.initial.files.disk;
  unwritten : l.files.unwritten ≡ l.initial.files.unwritten;
  once : l.files.opened ≤ l.initial.files.opened + l.number;
  noted : SameReads l.initial.input l.input l.initial.files l.files;
  left : streams (drop l.number l.places) ≡ streams l.places → l.input ≡ l.initial.input;
}
