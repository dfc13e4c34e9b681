use Rattle.std.specs.Prelude.{◌≤◌, IfSome}
use Rattle.zerotrie_base.specs.Maps.{Pairs}
use Rattle.zerotrie_base.specs.Texts.{Lists}
use Rattle.zerotrie_core.proofs.CursorLemmas.Longest.{GoesAlong}
use Rattle.zerotrie_core.proofs.prefixes.longest_prefix.Given as goal

abbrev pub invariant-loop-index : goal.invariant-loop-index
invariant-loop-index g l = record {
  along : (pairs : Pairs) → Lists g.K.ZeroTrieWithOptions.kind l.bytes pairs → GoesAlong g.K.ZeroTrieWithOptions.kind pairs l.text l.index l.cursor l.longest;
  within : IfSome l.longest (λ r. r.0 ≤ l.index);
}
