use Rattle.std.proofs.Common.{◌≡◌, ◌++◌}
use Rattle.std.specs.String.{string_bytes}
use Rattle.zerotrie.specs.Items.{keyed, pairs_of}
use Rattle.zerotrie.specs.Kind.{simple_ascii}
use Rattle.zerotrie.specs.Maps.{beginning}
use Rattle.zerotrie_uses.proofs.completion.complete.Given as goal

abbrev pub invariant-loop-pair : goal.invariant-loop-pair
invariant-loop-pair l =
    keyed (λ word. string_bytes word) l.found.items ++ l.pair-iterator.pairs ≡ beginning simple_ascii l.prefix (pairs_of l.pairs)
