use Rattle.std.proofs.Common.{◌≡◌, ◌*◌, reverse}
use Rattle.zerotrie_base.proofs.varint.bytes_backward.Given as goal
use Rattle.zerotrie_base.specs.Numbers.{extender}
use Rattle.zerotrie_base.proofs.NumberLemmas.Written.{Completes}

abbrev pub invariant-loop-value : goal.invariant-loop-value
invariant-loop-value l = record {
  extended : l.extended ≡ 128 * extender (reverse l.out.items);
  completes : Completes l.latent l.v l.value (reverse l.out.items);
}

abbrev pub decreases-loop-value : goal.decreases-loop-value
decreases-loop-value l = l.value
