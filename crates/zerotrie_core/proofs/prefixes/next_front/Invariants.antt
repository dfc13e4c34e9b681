use Rattle.std.proofs.Common.{◌≡◌, ◌-◌, ◌≤◌, length, true}
use Rattle.zerotrie_base.specs.Kind.{kind_with}
use Rattle.zerotrie_core.specs.Prefixes.{along}
use Rattle.zerotrie_core.proofs.CursorLemmas.CommonPrefixes.{GoesOn}
use Rattle.zerotrie_core.proofs.prefixes.next_front.Given as goal

abbrev pub invariant-loop-value : goal.invariant-loop-value
invariant-loop-value l = record {
  inside : l.len ≤ length l.text;
  forward : l.initial.len ≤ l.len;
  once : l.initial.looked ≡ true → l.len ≡ l.initial.len → l.looked ≡ true;
  goes : GoesOn (along (kind_with l.options) l.initial.cursor l.text l.initial.len l.initial.looked) (along (kind_with l.options) l.cursor l.text l.len l.looked);
}

abbrev pub decreases-loop-value : goal.decreases-loop-value
decreases-loop-value l = length l.text - l.len
