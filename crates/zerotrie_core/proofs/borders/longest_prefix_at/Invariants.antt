use Rattle.std.proofs.Common.{◌≡◌, ◌≤◌, length, None}
use Rattle.std.specs.Prelude.{IfSome}
use Rattle.zerotrie_base.specs.Maps.{Pairs, value_at}
use Rattle.zerotrie_base.specs.Texts.{Lists}
use Rattle.zerotrie_core.specs.Borders.{is_border}
use Rattle.zerotrie_core.specs.Prefixes.{fronts}
use Rattle.zerotrie_core.proofs.BorderLemmas.{Finds, last_of}
use Rattle.zerotrie_core.proofs.borders.longest_prefix_at.Given as goal

abbrev pub invariant-loop-len : goal.invariant-loop-len
invariant-loop-len g l = let kind = g.K.ZeroTrieWithOptions.kind in record {
  finds : (pairs : Pairs) → Lists kind l.bytes pairs
      → Finds (is_border l.delimiters l.text) l.longest l.len-iterator (last_of (is_border l.delimiters l.text) None (fronts (value_at kind pairs) 0 l.text));
  text : l.len-iterator.text ≡ l.text;
  within : IfSome l.longest (λ r. r.0 ≤ length l.text);
}
