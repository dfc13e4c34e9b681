use Rattle.std.proofs.Common.{[], refl, arith}
use Rattle.zerotrie_core.specs.Texts.Lists.{nothing}
use Rattle.zerotrie_ascii.proofs.trie.AsciiTrie+K+ref+slice+u8.empty.Goals as goal

pub returns-clause-map : goal.returns-clause-map
returns-clause-map g c = rw c.from_bytes.ensures (record { short = omega arith; pairs = []; lists = nothing; is = refl })
