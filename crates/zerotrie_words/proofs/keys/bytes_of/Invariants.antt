use Rattle.std.proofs.Common.{◌≡◌, ◌++◌, drop, map}
use Rattle.zerotrie_words.proofs.keys.bytes_of.Given as goal

abbrev pub invariant-loop-word : goal.invariant-loop-word
invariant-loop-word l = map (λ key. key.now) l.keys.items ++ map (λ word. word.now) (drop l.word-index l.words) ≡ map (λ word. word.now) l.words
