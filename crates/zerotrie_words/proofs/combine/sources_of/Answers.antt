use Rattle.std.proofs.lemmas.List.{drop_all}
use Rattle.zerotrie_words.proofs.PlaceLemmas.{are_all}
use Rattle.zerotrie_words.proofs.combine.sources_of.Goals as goal

pub returns : goal.returns
returns c =
    are_all c.args.words.now c.loop-word.word-index c.loop-word.places.items (drop_all c.loop-word.word-index c.args.words.now c.loop-word-test.false) c.loop-word.invariant
