-- What a look-up in a build answers by the pairs alone: each lemma takes the build and the clause of `get`.
use Rattle.std.proofs.Common.{◌≡◌, ℕ, List, refl, sym, ◌∙◌, subst, Bool, true, false, cond, Option, Some, None}
use Rattle.std.specs.Prelude.{All, Contains, slice_index_or}
use Rattle.std.specs.Str.{str_eq_ignore_ascii_case}
use Rattle.zerotrie_core.specs.Kind.{Kind, simple_ascii, ignore_case, perfect_hash, extended_capacity}
use Rattle.zerotrie_core.specs.Maps.{Pairs, Map, map_of, look, value_at, same_key, RepeatsKey}
use Rattle.zerotrie_core.specs.Texts.{Means}
use Rattle.zerotrie_any.specs.Auto.{is_simple, auto_kind}
use Rattle.zerotrie_core.specs.Built.{IsBuilt}
use Rattle.zerotrie_core.specs.Routes.{Route, Takes}
use Rattle.zerotrie_core.specs.ArrayRoutes.{IsArrayBuilt}
use Rattle.zerotrie.specs.Keywords.{IsNumberOf}
use Rattle.zerotrie.proofs.Lookups.{look_is, present, absent, found, same_itself, same_ignoring_case, takes_distinct}
use Rattle.zerotrie_core.proofs.CallerLemmas.{ascends_in_apart}
pub use Rattle.zerotrie_core.proofs.CallerLemmas.{exact_same}

-- What a look-up answers by the pairs, if the kind may take keys as one that differ in case.
pub record Answer (kind : Kind) (pairs : Pairs) (key : List ℕ) (answer : Option ℕ) : Type 0 where
  pub value : answer ≡ value_at kind pairs key
  pub present : (own : List ℕ) (v : ℕ) → Contains pairs (own, v) → same_key kind own key ≡ true → answer ≡ Some v
  pub absent : All (λ e. same_key kind e.0 key ≡ false) pairs → answer ≡ None
  pub found : (v : ℕ) → answer ≡ Some v → (own : List ℕ) × Contains pairs (own, v) × (same_key kind own key ≡ true)

-- the same in the kind without case, by std's comparison
pub record AnswerWithoutCase (pairs : Pairs) (key : List ℕ) (answer : Option ℕ) : Type 0 where
  pub present : (own : List ℕ) (v : ℕ) → Contains pairs (own, v) → str_eq_ignore_ascii_case own key ≡ true → answer ≡ Some v
  pub absent : All (λ e. str_eq_ignore_ascii_case e.0 key ≡ false) pairs → answer ≡ None
  pub found : (v : ℕ) → answer ≡ Some v → (own : List ℕ) × Contains pairs (own, v) × (str_eq_ignore_ascii_case own key ≡ true)

-- what it answers in the kinds that keep case
pub record ExactAnswer (pairs : Pairs) (key : List ℕ) (answer : Option ℕ) : Type 0 where
  pub present : (v : ℕ) → Contains pairs (key, v) → answer ≡ Some v
  pub exactly : IsNumberOf pairs key answer

-- keys that are one to the kind are the same
abbrev pub KeepsCase : Kind → Type 0
KeepsCase simple_ascii = Unit {0}
KeepsCase ignore_case = ⊥
KeepsCase perfect_hash = Unit {0}
KeepsCase extended_capacity = Unit {0}

pub same_kept : (kind : Kind) → KeepsCase kind → (p q : List ℕ) → same_key kind p q ≡ true → p ≡ q
same_kept simple_ascii keeps p q same = exact_same p q same
same_kept ignore_case keeps p q same = absurd keeps
same_kept perfect_hash keeps p q same = exact_same p q same
same_kept extended_capacity keeps p q same = exact_same p q same

-- the kind that is taken for pairs keeps case
pub auto_keeps : (pairs : Pairs) → KeepsCase (auto_kind pairs)
auto_keeps pairs = by (is_simple pairs)
  where
    by : (b : Bool) → KeepsCase (cond b simple_ascii perfect_hash)
    by true = tt
    by false = tt

-- of pairs with distinct keys
by_map : {kind : Kind} {pairs : Pairs} {bytes key : List ℕ} {answer : Option ℕ} → (RepeatsKey pairs → ⊥) → IsBuilt kind pairs bytes
    → answer ≡ look kind (map_of pairs) key → Answer kind pairs key answer
by_map {kind = kind} {pairs = pairs} {bytes = bytes} {key = key} distinct built is = record {
  value = is ∙ look_is kind pairs bytes key built;
  present = λ own v has same. is ∙ present kind pairs bytes key own v built distinct has same;
  absent = λ none. is ∙ absent kind pairs bytes key built none;
  found = λ v some. found kind pairs bytes key v built (sym is ∙ some);
}

-- of pairs of which there is a build, by what the look-up answers in their map
pub answered_by_map : {kind : Kind} {pairs : Pairs} {bytes key : List ℕ} {answer : Option ℕ} (route : Route) → Takes route pairs × IsBuilt kind pairs bytes
    → answer ≡ look kind (map_of pairs) key → Answer kind pairs key answer
answered_by_map {pairs = pairs} route build is = by_map (takes_distinct route pairs build.0) build.1 is

-- by what a route answers, and the clause of `get` on its trie
pub answered : {kind : Kind} {pairs : Pairs} {bytes key : List ℕ} {answer : Option ℕ} (route : Route) → Takes route pairs × IsBuilt kind pairs bytes
    → ((m : Map) → Means kind bytes m → answer ≡ look kind m key) → Answer kind pairs key answer
answered {pairs = pairs} route build get = answered_by_map route build (get (map_of pairs) build.1.means)

-- by what a route into an array answers, and that clause
pub array_answered : {kind : Kind} {k : ℕ} {pairs : Pairs} {bytes key : List ℕ} {answer : Option ℕ} → IsArrayBuilt kind k pairs bytes
    → ((m : Map) → Means kind bytes m → answer ≡ look kind m key) → Answer kind pairs key answer
array_answered {kind = kind} {pairs = pairs} build get = by_map (ascends_in_apart kind pairs build.ascends) build.built (get (map_of pairs) build.built.means)

-- the clause of `get` if the trie's kind is another word for this one, as of a `ZeroTrie`
pub get_by_kind : {own kind : Kind} (bytes key : List ℕ) (answer : Option ℕ) → own ≡ kind → ((m : Map) → Means own bytes m → answer ≡ look own m key)
    → (m : Map) → Means kind bytes m → answer ≡ look kind m key
get_by_kind bytes key answer is get = subst (λ k. (m : Map) → Means k bytes m → answer ≡ look k m key) is get

exact : (kind : Kind) (pairs : Pairs) (key : List ℕ) (answer : Option ℕ) → KeepsCase kind → Answer kind pairs key answer → IsNumberOf pairs key answer
exact kind pairs key (Some v) keeps a = let f = a.found v refl in subst (λ k. Contains pairs (k, v)) (same_kept kind keeps f.0 key f.2) f.1
exact kind pairs key None keeps a = λ v has. let is = a.present key v has (same_itself kind key) in absurd (cc)

-- in a kind that keeps case
pub exactly : {kind : Kind} {pairs : Pairs} {key : List ℕ} {answer : Option ℕ} → Answer kind pairs key answer → KeepsCase kind → ExactAnswer pairs key answer
exactly {kind = kind} {pairs = pairs} {key = key} {answer = answer} a keeps = record {
  present = λ v has. a.present key v has (same_itself kind key);
  exactly = exact kind pairs key answer keeps a;
}

-- in the kind without case
pub without_case : {pairs : Pairs} {key : List ℕ} {answer : Option ℕ} → Answer ignore_case pairs key answer → AnswerWithoutCase pairs key answer
without_case {pairs = pairs} {key = key} a = record {
  present = λ own v has same. a.present own v has (same_ignoring_case own key ∙ same);
  absent = λ none. a.absent (λ i d l. same_ignoring_case (slice_index_or pairs i d).0 key ∙ none i d l);
  found = λ v some. let f = a.found v some in (f.0, f.1, sym (same_ignoring_case f.0 key) ∙ f.2);
}
