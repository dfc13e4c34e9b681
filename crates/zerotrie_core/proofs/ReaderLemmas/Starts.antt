-- Where a look-up begins.
use Rattle.std.proofs.Common.{◌≡◌, ℕ, zero, suc, ◌<◌, ◌^◌, List, [], ◌∷◌, length, refl, sym, ◌∙◌, ap, Option, Some, None}
use Rattle.std.proofs.Math.ListN.{set, replicate}
use Rattle.std.specs.Prelude.{IfSome, slice_get}
use Rattle.std.specs.Borrow.{Bor}
use Rattle.zerotrie_base.specs.Kind.{Kind}
use Rattle.zerotrie_base.specs.Maps.{Pairs, Map, map_of, value_at, look}
use Rattle.zerotrie_base.specs.Texts.{Lists, Means}
use Rattle.zerotrie_core.specs.Machine.{behind}
use Rattle.zerotrie_core.specs.Places.{Place, ListsAt, IsStep}
use Rattle.zerotrie_core.specs.CursorLaws.{StepsAnswer}
use Rattle.zerotrie_core.specs.reader.Starts.{AnswersAs, LeadsTo}
use Rattle.zerotrie_core.proofs.CursorLemmas.Calls.{before_text}
use Rattle.zerotrie_base.proofs.MapLemmas.Maps.{look-map_of}

-- a step leads to what it leaves, if that is a text
pub after_step : (kind : Kind) (bytes : List ℕ) (b : ℕ) (answer : Option ℕ) (place : Place) (rest : List ℕ) → StepsAnswer
    → IsStep kind (ListsAt kind (before_text bytes)) b answer (ListsAt kind place) → ((pairs : Pairs) → ListsAt kind place pairs → Lists kind rest pairs) → LeadsTo kind bytes b rest
after_step kind bytes b answer place rest law step text key pairs lists =
    let s = step pairs lists in (
      behind answer pairs,
      text (behind answer pairs) s.1,
      sym (ap (λ a. value_at kind (behind a pairs) key) s.0 ∙ law kind (before_text bytes) pairs lists (b ∷ []) key),
    )

pub led_to : (kind : Kind) (bytes : List ℕ) (b : ℕ) (answer : Option ℕ) (place : Place) (rest : Option (Bor (List ℕ))) → StepsAnswer
    → IsStep kind (ListsAt kind (before_text bytes)) b answer (ListsAt kind place)
    → IfSome rest (λ trie. (k : Kind) (pairs : Pairs) → ListsAt k place pairs → Lists k trie.now pairs) → IfSome rest (λ trie. LeadsTo kind bytes b trie.now)
led_to kind bytes b answer place None law step text = tt
led_to kind bytes b answer place (Some trie) law step text = after_step kind bytes b answer place trie.now law step (text kind)

-- a look-up that begins there answers as one from the front
pub value_from : (kind : Kind) (bytes key rest left : List ℕ) (answer : Option ℕ) → AnswersAs kind bytes key rest left → length rest < 2 ^ 64
    → ((m : Map) → Means kind rest m → answer ≡ look kind m left) → (m : Map) → Means kind bytes m → answer ≡ look kind m key
value_from kind bytes key rest left answer starts short finds m means =
    let b = starts means.pairs means.lists in
    finds (map_of b.0) (record { short = short; pairs = b.0; lists = b.1; is = refl })
    ∙ look-map_of b.1 left
    ∙ sym b.2
    ∙ sym (look-map_of means.lists key)
    ∙ ap (λ n. look kind n key) (sym means.is)

-- what holds of each element with its place
pub at_replicate : {X : Type 0} (P : ℕ → X → Type 0) (n : ℕ) (x : X) → ((i : ℕ) → P i x) → (i : ℕ) → IfSome (slice_get (replicate n x) i) (P i)
at_replicate P zero x each i = tt
at_replicate P (suc n) x each zero = each 0
at_replicate P (suc n) x each (suc i) = at_replicate (λ k. P (suc k)) n x (λ k. each (suc k)) i

pub at_set : {X : Type 0} (P : ℕ → X → Type 0) (xs : List X) (n : ℕ) (x : X) → ((i : ℕ) → IfSome (slice_get xs i) (P i)) → P n x → (i : ℕ) → IfSome (slice_get (set xs n x) i) (P i)
at_set P [] n x all own i = all i
at_set P (y ∷ xs) zero x all own zero = own
at_set P (y ∷ xs) zero x all own (suc i) = all (suc i)
at_set P (y ∷ xs) (suc n) x all own zero = all 0
at_set P (y ∷ xs) (suc n) x all own (suc i) = at_set (λ k. P (suc k)) xs n x (λ k. all (suc k)) own i
