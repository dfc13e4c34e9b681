-- What a cursor finds after the bytes that it stepped.
use Rattle.std.proofs.Common.{◌≡◌, ℕ, ◌<◌, List, [], ◌∷◌, ◌++◌, length, refl, sym, ap, subst, ◌∙◌, Option, None, Result, Ok, Err}
use Rattle.std.specs.Prelude.{◌^◌, IsOk, MatchResult}
use Rattle.std.proofs.lemmas.List.{append-nil}
use Rattle.zerotrie_core.specs.Kind.{Kind}
use Rattle.zerotrie_core.specs.Maps.{Pairs, Map, map_of, look, value_at}
use Rattle.zerotrie_core.specs.Texts.{Lists, Means}
use Rattle.zerotrie_core.specs.Machine.{behind, after_steps}
use Rattle.zerotrie_core.specs.Places.{Place, ListsAt, IsStep}
use Rattle.zerotrie_core.specs.CursorLaws.{StepsAnswer, SuffixAnswers}
use Rattle.zerotrie_ascii.specs.Writing.{StepsBy, HasValue}
use Rattle.zerotrie.proofs.Lookups.{listed_answer}

-- The value after steps by a key: `law` is the clause `pairs` of `laws::steps_look_ahead`.
pub value_after : (kind : Kind) (bytes : List ℕ) (m : Map) (means : Means kind bytes m) → StepsAnswer → (key : List ℕ) (answer : Option ℕ)
    → answer ≡ value_at kind (after_steps kind key means.pairs) [] → answer ≡ look kind m key
value_after kind bytes m means law key answer is =
    is ∙ law kind (record { run = []; trie = bytes }) means.pairs means.lists key [] ∙ ap (value_at kind means.pairs) (append-nil _) ∙ listed_answer kind bytes m means key

-- the same after steps by a front and then by a key
pub value_behind : (kind : Kind) (bytes : List ℕ) (m : Map) (means : Means kind bytes m) → StepsAnswer → (place : Place) (front key : List ℕ) (answer : Option ℕ)
    → ListsAt kind place (after_steps kind front means.pairs) → answer ≡ value_at kind (after_steps kind key (after_steps kind front means.pairs)) []
    → answer ≡ look kind m (front ++ key)
value_behind kind bytes m means law place front key answer lists is =
    is ∙ law kind place (after_steps kind front means.pairs) lists key [] ∙ ap (value_at kind (after_steps kind front means.pairs)) (append-nil _)
    ∙ law kind (record { run = []; trie = bytes }) means.pairs means.lists front key ∙ listed_answer kind bytes m means (front ++ key)

-- a step leaves what the machine does after a step by the byte: `step` is the clause `meaning`
pub steps_along : (kind : Kind) (Before : Pairs → Type 0) (c : ℕ) (answer : Option ℕ) (After : Pairs → Type 0) → IsStep kind Before c answer After
    → (pairs : Pairs) → Before pairs → After (after_steps kind (c ∷ []) pairs)
steps_along kind Before c answer After step pairs before = let s = step pairs before in subst (λ edge. After (behind edge pairs)) s.0 s.1

-- what a suffix trie means, and that its map answers as the whole does: `law` is the clause `maps` of `laws::steps_look_ahead`
pub suffixes_mean : (kind : Kind) (bytes rest : List ℕ) (m : Map) (means : Means kind bytes m) → SuffixAnswers → (front : List ℕ) → length rest < 2 ^ 64
    → Lists kind rest (after_steps kind front means.pairs) → (n : Map) × Means kind rest n × ((key : List ℕ) → look kind n key ≡ look kind m (front ++ key))
suffixes_mean kind bytes rest m means law front short lists =
    let left = after_steps kind front means.pairs in
    (map_of left, record { short = short; pairs = left; lists = lists; is = refl }, λ key. law kind bytes rest m means front key lists)

-- The value of a key that was written to a fresh cursor, by the parts of the clause of `get_with_write_fn`: what the closure's one write answered and left, and what followed.
pub written_value : {E : Type 0} (kind : Kind) (bytes fresh left : List ℕ) (m : Map) (means : Means kind bytes m) → StepsAnswer → (key : List ℕ) (answer : Option ℕ)
    (wrote : Result (Unit {0}) E) → fresh ≡ bytes → IsOk wrote → (IsOk wrote → StepsBy kind fresh key left)
    → MatchResult wrote (λ _. HasValue kind left answer) (λ _. answer ≡ None) → answer ≡ look kind m key
written_value kind bytes fresh left m means law key answer (Ok _) same ok steps value =
    let start = subst (λ b. Lists kind b means.pairs) (sym same) means.lists in
    value_after kind bytes m means law key answer (value (after_steps kind key means.pairs) (steps ok means.pairs start))
written_value kind bytes fresh left m means law key answer (Err e) same ok steps value = absurd (cc)
