use Rattle.std.proofs.Common.{◌≡◌, ◌+◌, ◌*◌, ◌≤◌, drop, false}
use Rattle.zerotrie_build.specs.passes.Windows.{short_size}
use Rattle.zerotrie_build.proofs.windows.short_len.Given as goal

abbrev pub invariant-loop-byte : goal.invariant-loop-byte
invariant-loop-byte l = record {
  so_far : l.len + short_size l.high (drop l.byte-index l.rest) ≡ short_size false l.rest;
  few : l.len ≤ 2 * l.byte-index;
}
