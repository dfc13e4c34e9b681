-- What a place of another trie has.
use Rattle.std.proofs.Common.{◌≡◌, ℕ, List, [], ◌∷◌, ◌++◌, refl, sym, ap, ◌∙◌, Bool, true, false, Option}
use Rattle.std.specs.Prelude.{is_some, not}
use Rattle.std.proofs.lemmas.List.{append-nil}
use Rattle.zerotrie_base.specs.Kind.{Kind}
use Rattle.zerotrie_base.specs.Maps.{Pairs, Map, value_at, look, with_run, with_front}
use Rattle.zerotrie_base.specs.Texts.{Means}
use Rattle.zerotrie_base.specs.Cursors.{met, edge_like}
use Rattle.zerotrie_core.specs.Machine.{behind, after_steps}
use Rattle.zerotrie_core.specs.Places.{Place, ListsAt, ListsBehind}
use Rattle.zerotrie_core.specs.CursorLaws.{StepsAnswer}
use Rattle.zerotrie_core.specs.listing.Listed.{listed}
use Rattle.zerotrie_core.proofs.CallerLemmas.{look-map_of}
use Rattle.zerotrie_core.proofs.ForCallers.{listed_pairs}
use Rattle.zerotrie_search.specs.OtherKeys.{Other, has_key, has_at}

none_run : (pairs : Pairs) → with_run [] pairs ≡ pairs
none_run [] = refl
none_run (e ∷ pairs) = ap (λ ps. e ∷ ps) (none_run pairs)

front_run : (b : ℕ) (run : List ℕ) (pairs : Pairs) → with_run (b ∷ run) pairs ≡ with_front b (with_run run pairs)
front_run b run [] = refl
front_run b run (e ∷ pairs) = ap (λ ps. (b ∷ (run ++ e.0), e.1) ∷ ps) (front_run b run pairs)

behind_is : (kind : Kind) (run trie : List ℕ) (pairs : Pairs) → ListsBehind kind run trie pairs → with_run run (listed kind trie) ≡ pairs
behind_is kind [] trie pairs lists = none_run (listed kind trie) ∙ listed_pairs lists
behind_is kind (b ∷ run) trie pairs lists = front_run b run (listed kind trie) ∙ ap (with_front b) (behind_is kind run trie lists.0 lists.3) ∙ sym lists.2

-- a place has the keys of the pairs that it lists
pub has_is : (kind : Kind) (place : Place) (pairs : Pairs) → ListsAt kind place pairs → (key : List ℕ) → has_at kind place key ≡ is_some (value_at kind pairs key)
has_is kind place pairs lists key = ap (λ ps. is_some (value_at kind ps key)) (behind_is kind place.run place.trie pairs lists)

pub has_start : (other : Other) (key : List ℕ) → has_at other.kind (record { run = []; trie = other.bytes }) key ≡ has_key other key
has_start other key = ap (λ ps. is_some (value_at other.kind ps key)) (none_run (listed other.kind other.bytes))

-- another trie has the keys of its map
pub has_map : (other : Other) (m : Map) → Means other.kind other.bytes m → (key : List ℕ) → has_key other key ≡ is_some (look other.kind m key)
has_map other m means key =
    ap (λ ps. is_some (value_at other.kind ps key)) (listed_pairs means.lists)
    ∙ ap is_some (sym (look-map_of means.lists key))
    ∙ ap (λ n. is_some (look other.kind n key)) (sym means.is)

-- one more step
pub steps_more : (kind : Kind) (front : List ℕ) (b : ℕ) (pairs : Pairs) → after_steps kind (front ++ b ∷ []) pairs ≡ behind (edge_like kind b (met (after_steps kind front pairs))) (after_steps kind front pairs)
steps_more kind [] b pairs = refl
steps_more kind (c ∷ front) b pairs = steps_more kind front b (behind (edge_like kind c (met pairs)) pairs)

pub has_step : StepsAnswer → (kind : Kind) (old new : Place) (pairs : Pairs) → ListsAt kind old pairs → (b : ℕ) → ListsAt kind new (behind (edge_like kind b (met pairs)) pairs) → (key : List ℕ) → has_at kind new key ≡ has_at kind old (b ∷ key)
has_step law kind old new pairs lists b after key =
    has_is kind new (behind (edge_like kind b (met pairs)) pairs) after key ∙ ap is_some (law kind old pairs lists (b ∷ []) key) ∙ sym (has_is kind old pairs lists (b ∷ key))

pub has_none : (kind : Kind) (place : Place) (pairs : Pairs) → ListsAt kind place pairs → pairs ≡ [] → (key : List ℕ) → has_at kind place key ≡ false
has_none kind place pairs lists none key = has_is kind place pairs lists key ∙ ap (λ ps. is_some (value_at kind ps key)) none

-- the value of the bytes that lead to a place is that of the empty key there
pub value_is : StepsAnswer → (other : Other) (m : Map) (means : Means other.kind other.bytes m) (front : List ℕ) (r : Option ℕ) → r ≡ value_at other.kind (after_steps other.kind front means.pairs) [] → r ≡ look other.kind m front
value_is law other m means front r is =
    is
    ∙ law other.kind (record { run = []; trie = other.bytes }) means.pairs means.lists front []
    ∙ ap (value_at other.kind means.pairs) (append-nil front)
    ∙ sym (look-map_of means.lists front)
    ∙ ap (λ n. look other.kind n front) (sym means.is)

pub not_false : (b : Bool) → not b ≡ false → b ≡ true
not_false true is = refl
not_false false is = sym is
