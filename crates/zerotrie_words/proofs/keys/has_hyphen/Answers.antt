use Rattle.std.proofs.Common.{rules, ◌≡◌, ◌<◌, ℕ, List, [], codes, drop, drop-cons, get_or, length, map}
use Rattle.std.specs.Borrow.{Bor}
use Rattle.zerotrie_words.specs.Words.{HasNoHyphen}
use Rattle.zerotrie_words.proofs.keys.has_hyphen.Goals as goal

at_hyphen : (words : List (Bor (List ℕ))) (i : ℕ) (d : Bor (List ℕ)) → i < length words → (get_or words i d).now ≡ codes "-"
    → HasNoHyphen (map (λ word. word.now) (drop i words)) → ⊥
at_hyphen words i d within is none = (rw (drop-cons words i d within) at none).0 is

pub returns-then-eq-clause-yes : goal.returns-then-eq-clause-yes
returns-then-eq-clause-yes c = λ same none.
    let is : (get_or c.args.words.now c.loop-word.word-index (record { ref_ptr = (0, 0); now = [] })).now ≡ codes "-" = search rules in
    at_hyphen c.args.words.now c.loop-word.word-index (record { ref_ptr = (0, 0); now = [] }) c.loop-word-test.true is (c.loop-word.invariant.left none)
