use Rattle.std.proofs.Common.{◌≡◌, drop}
use Rattle.zerotrie_core.specs.Kind.{simple_ascii}
use Rattle.zerotrie_core.specs.Machine.{after_steps}
use Rattle.zerotrie_core.specs.Maps.{Pairs}
use Rattle.zerotrie_core.specs.Texts.{Lists}
use Rattle.zerotrie.proofs.dense.get.follow.Given as goal

abbrev pub invariant-loop-byte : goal.invariant-loop-byte
invariant-loop-byte l = (pairs : Pairs) → Lists simple_ascii l.initial.trie.now pairs → (now : Pairs) × Lists simple_ascii l.trie.now now
    × (after_steps simple_ascii (drop l.byte-index l.key) now ≡ after_steps simple_ascii l.key pairs)
