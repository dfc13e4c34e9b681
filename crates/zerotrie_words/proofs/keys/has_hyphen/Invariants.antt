use Rattle.std.proofs.Common.{drop, map}
use Rattle.zerotrie_words.specs.Words.{HasNoHyphen}
use Rattle.zerotrie_words.proofs.keys.has_hyphen.Given as goal

abbrev pub invariant-loop-word : goal.invariant-loop-word
invariant-loop-word l = record {
  all : HasNoHyphen (map (λ word. word.now) (drop l.word-index l.words)) → HasNoHyphen (map (λ word. word.now) l.words);
  left : HasNoHyphen (map (λ word. word.now) l.words) → HasNoHyphen (map (λ word. word.now) (drop l.word-index l.words));
}
