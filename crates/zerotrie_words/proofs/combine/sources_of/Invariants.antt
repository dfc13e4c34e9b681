use Rattle.zerotrie_words.proofs.PlaceLemmas.{AreSoFar}
use Rattle.zerotrie_words.proofs.combine.sources_of.Given as goal

abbrev pub invariant-loop-word : goal.invariant-loop-word
invariant-loop-word l = AreSoFar l.words l.word-index l.places.items
