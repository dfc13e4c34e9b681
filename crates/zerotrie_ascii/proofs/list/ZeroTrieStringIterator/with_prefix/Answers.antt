use Rattle.std.proofs.Common.{List, ℕ}
use Rattle.std.specs.Str.{IsUtf8}
use Rattle.std.proofs.lemmas.List.Elements.{All-filter}
use Rattle.zerotrie_core.specs.Kind.{Kind, IsAscii}
use Rattle.zerotrie_core.specs.Maps.{Pairs, begins_with, beginning}
use Rattle.zerotrie_core.specs.Texts.{Lists}
use Rattle.zerotrie_core.proofs.CallerLemmas.{listed_texts, every_all}
use Rattle.zerotrie_ascii.specs.ListedTexts.{AreTexts}
use Rattle.zerotrie_ascii.proofs.list.ZeroTrieStringIterator.with_prefix.Goals as goal

beginning_texts : (kind : Kind) → IsAscii kind → (bytes prefix : List ℕ) (pairs : Pairs) → Lists kind bytes pairs → AreTexts (beginning kind prefix pairs)
beginning_texts kind ascii bytes prefix pairs text =
    All-filter (λ e. begins_with kind prefix e.0) (λ e. IsUtf8 e.0) pairs (every_all (λ e. IsUtf8 e.0) pairs (listed_texts ascii text))

pub returns-clause-texts : goal.returns-clause-texts
returns-clause-texts g c = beginning_texts g.K.ZeroTrieWithOptions.kind g.met.K.AsciiKind.ascii _ c.args.prefix.now

pub returns-in_err-with_prefix-clause-texts : goal.returns-in_err-with_prefix-clause-texts
returns-in_err-with_prefix-clause-texts g c = beginning_texts g.K.ZeroTrieWithOptions.kind g.met.K.AsciiKind.ascii _ c.args.prefix.now
