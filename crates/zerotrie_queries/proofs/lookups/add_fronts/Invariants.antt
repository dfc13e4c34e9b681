use Rattle.std.proofs.Common.{◌≡◌}
use Rattle.zerotrie_core.specs.Prefixes.{most_left}
use Rattle.zerotrie_queries.proofs.FrontLemmas.{Prints}
use Rattle.zerotrie_queries.proofs.lookups.add_fronts.Given as goal

abbrev pub invariant-loop-len : goal.invariant-loop-len
invariant-loop-len l = record {
  text : l.fronts.text ≡ l.text;
  prints : Prints l.border l.text l.lines.items l.initial.lines.items l.found l.initial.fronts l.fronts;
}

abbrev pub decreases-loop-len : goal.decreases-loop-len
decreases-loop-len l = most_left l.fronts
