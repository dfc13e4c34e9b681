use Rattle.std.specs.Str.{IsUtf8}
use Rattle.zerotrie_core.proofs.CallerLemmas.{listed_texts, every_all}
use Rattle.zerotrie_ascii.proofs.list.ZeroTrieStringIterator.new.Goals as goal

pub returns-clause-texts : goal.returns-clause-texts
returns-clause-texts g c = λ pairs text. every_all (λ e. IsUtf8 e.0) pairs (listed_texts g.met.K.AsciiKind.ascii text)
