use Rattle.std.proofs.Common.{◌≡◌, ◌-◌, ◌+◌, ◌≤◌, ◌++◌, length}
use Rattle.zerotrie_core.specs.Maps.{Pairs}
use Rattle.zerotrie_search.specs.Searches.{accepted}
use Rattle.zerotrie_c.specs.Listed.{part}
use Rattle.zerotrie_c.proofs.PartLemmas.{Going}
use Rattle.zerotrie_c.proofs.parts.fill.Given as goal

abbrev pub invariant-loop-pairs : goal.invariant-loop-pairs
invariant-loop-pairs g l = record {
  within : l.used ≤ length l.keys;
  few : l.count ≤ l.room;
  found : Pairs;
  valid : g.L.TrieListing.IsValid l.initial.pairs
      → g.L.TrieListing.IsValid l.pairs × ((g.L.TrieListing.left l.initial.pairs).pairs ≡ found ++ (g.L.TrieListing.left l.pairs).pairs);
  takes : g.L.TrieListing.takes l.pairs ≡ g.L.TrieListing.takes l.initial.pairs;
  taken : accepted (g.L.TrieListing.takes l.initial.pairs) found ≡ found;
  most : length found + g.L.TrieListing.most l.pairs ≤ g.L.TrieListing.most l.initial.pairs;
  going : Going found (part l.initial.keys l.initial.ends l.initial.values 0 l.next_len) (part l.keys l.ends l.values l.count l.next_len) l.used;
}

abbrev pub decreases-loop-pairs : goal.decreases-loop-pairs
decreases-loop-pairs g l = l.room - l.count
