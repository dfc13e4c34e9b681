use Rattle.std.proofs.Common.{[], refl, arith}
use Rattle.zerotrie_core.specs.Texts.Lists.{nothing}
use Rattle.zerotrie_any.proofs.trie.ZeroTrie+ref+slice+u8.empty.Goals as goal

pub returns-clause-map : goal.returns-clause-map
returns-clause-map c = rw c.of_kind.ensures.store (record { short = omega arith; pairs = []; lists = nothing; is = refl })
