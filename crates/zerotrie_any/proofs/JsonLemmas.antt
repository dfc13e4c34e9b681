-- What is read in JSON values, and what a build of it is.
use Rattle.std.proofs.Common.{◌≡◌, ◌≢◌, ◌⊎◌, ◌↔◌, ℕ, suc, ◌<◌, List, [], ◌∷◌, ◌++◌, length, Option, None, Some, Result, Ok, Err, inl, inr, refl, sym, ap, append_assoc, arith}
use Rattle.std.specs.Option.{option_or}
use Rattle.std.proofs.lemmas.Bool.{false≢true}
use Rattle.std.proofs.lemmas.Option.{none-some}
use Rattle.std.specs.Prelude.{option_map, option_and_then, IsSome, map, Bool, true, false, if◌then◌else◌, slice_index_or, All}
use Rattle.std.specs.FinMap.{entries}
use Rattle.std.proofs.lemmas.Bool.Decides.{nat_tests}
use Rattle.std.proofs.lemmas.List.Elements.{All-head, All-tail}
use Rattle.std.specs.Result.{IsErrAnd}
use Rattle.serde_json.specs.Data.{Data, null, boolean, number, string, array, object, Items, no_items, item, Members, no_members, member}
use Rattle.serde_json.specs.Find.{as_array, as_object}
use Rattle.serde_json.specs.View.{items_of, items_view}
use Rattle.serde_json.specs.declared.value.Value.{Value}
use Rattle.zerotrie_core.specs.Kind.{Kind, edge_limit}
use Rattle.zerotrie_core.specs.Maps.{Pairs}
use Rattle.zerotrie_core.proofs.CallerLemmas.{edge_limit_to}
use Rattle.zerotrie_core.specs.Routes.{any_order, IsRefusal}
use Rattle.zerotrie_core.specs.declared.ZeroTrieBuildError.{ZeroTrieBuildError}
use Rattle.zerotrie_any.specs.Json.{whole, members, list_of, pair_list, are_text, json_of, each, number_in, byte_in, pair_of_items, pair_in, member_pairs, pairs_in, JsonKeepsPairs}
use Rattle.zerotrie_any.specs.JsonCalls.{IsBuildOfJson, IsOfBuild, IsFirstNoPair, first_or_later, first_unread, name_or_later, first_member}
use Rattle.zerotrie_any.specs.declared.json.no_pair.NoPair.{NoPair}
use Rattle.zerotrie_any.specs.declared.json.JsonError.{JsonError}

-- one element more in front of what is still to come
pub lift_more : {P : Type 0} (done more : List P) (p : P) (rest : Option (List P)) → more ≡ done ++ p ∷ [] → option_map (λ ps. more ++ ps) rest ≡ option_map (λ ps. done ++ ps) (option_map (λ ps. p ∷ ps) rest)
lift_more done more p None e = refl
lift_more done more p (Some ps) e = rw e (ap Some (append_assoc done (p ∷ []) ps))

-- items of another number than two are no pair
pub not_two : (vs : List Value) → length vs ≢ 2 → pair_of_items (items_view vs) ≡ None
not_two [] h = refl
not_two (v ∷ []) h = refl
not_two (v ∷ w ∷ []) h = absurd (h refl)
not_two (v ∷ w ∷ x ∷ vs) h = refl

-- a refusal of a build of the pairs in a value is one of reading the value
pub refused_read : {B : Type 0} (kind : Pairs → Kind) (bytes : B → List ℕ) (d : Data) (pairs : Pairs) (e : ZeroTrieBuildError) (r : Result B JsonError)
    → pairs_in d ≡ Some pairs → IsRefusal any_order (kind pairs) pairs e → IsErrAnd r (λ j. IsOfBuild e j) → IsBuildOfJson kind bytes d r
refused_read kind bytes d pairs e (Ok b) spelled refusal of = absurd of
refused_read kind bytes d pairs e (Err j) spelled refusal of = elim of [
  | inl memory ↦ rw (memory.1) tt
  | inr held ↦ rw (held.1) (elim refusal [
    | inl memory ↦ absurd (held.0 memory)
    | inr cause ↦ (pairs, spelled, cause)
  ])
]

-- if each element is read in what is shown of it, all are read in the list of what is shown
pub each_shown : {A : Type 0} (shown : A → Data) (read : Data → Option A) (xs : List A) → All (λ x. read (shown x) ≡ Some x) xs
    → each read (items_of (map shown xs)) ≡ Some xs
each_shown shown read [] h = refl
each_shown shown read (x ∷ xs) h =
    rw (All-head (λ y. read (shown y) ≡ Some y) x xs h, each_shown shown read xs (All-tail (λ y. read (shown y) ≡ Some y) x xs h)) refl

-- a byte is read in its number
byte_shown : (b : ℕ) → b < 256 → byte_in (whole b) ≡ Some b
byte_shown b h = grind (arith, nat_tests)

-- a pair whose key is bytes is read in its list
pair_shown : (e : List ℕ × ℕ) → All (λ b. b < 256) e.0 → pair_in (pair_list e) ≡ Some e
pair_shown e h = rw (each_shown whole byte_in e.0 (λ k d l. byte_shown (slice_index_or e.0 k d) (h k d l))) refl

-- the pairs in the members of an object are those that were shown
members_shown : (pairs : Pairs) → member_pairs (members pairs) ≡ Some pairs
members_shown [] = refl
members_shown (e ∷ pairs) = rw (members_shown pairs) refl

-- in either form
shown_either : (pairs : Pairs) → All (λ e. All (λ b. b < 256) e.0) pairs → (text : Bool)
    → pairs_in (if text then object (members pairs) else list_of (map pair_list pairs)) ≡ Some pairs
shown_either pairs h true = rw (members_shown pairs) refl
shown_either pairs h false = each_shown pair_list pair_in pairs (λ k d l. pair_shown (slice_index_or pairs k d) (h k d l))

-- the pairs in the value of pairs are these
pub json_shown : (pairs : Pairs) → All (λ e. All (λ b. b < 256) e.0) pairs → pairs_in (json_of pairs) ≡ Some pairs
json_shown pairs h = shown_either pairs h (are_text pairs)

-- what is below the edge limit of a kind is a byte
below_limit : (kind : Kind) (b : ℕ) → b < edge_limit kind → b < 256
below_limit kind b h = omega (arith, edge_limit_to kind)

-- the pairs in the value of a map that fits a kind are the map's
pub json_kept : JsonKeepsPairs
json_kept kind m fits = json_shown (entries m) (λ k d l. λ i b j. below_limit kind _ (fits.key_bytes k d l i b j))

-- what is read of a list if its first item is this one, and nothing is bad in it
next_read : {A : Type 0} (a : Option A) (bad : Option ℕ) (rest : Option (List A)) → (bad ≡ None → IsSome rest)
    → first_or_later a bad ≡ None → IsSome (option_and_then (λ b. option_map (λ more. b ∷ more) rest) a)
next_read None bad rest h e = absurd (none-some 1 (sym e))
next_read (Some a) (Some n) rest h e = absurd (none-some (suc n) (sym e))
next_read (Some a) None None h e = h refl
next_read (Some a) None (Some more) h e = refl

-- nothing is, if there is something bad in it
next_unread : {A : Type 0} (a : Option A) (bad : Option ℕ) (rest : Option (List A)) → ((n : ℕ) → bad ≡ Some n → IsSome rest → ⊥)
    → (n : ℕ) → first_or_later a bad ≡ Some n → IsSome (option_and_then (λ b. option_map (λ more. b ∷ more) rest) a) → ⊥
next_unread None bad rest h n e some = false≢true some
next_unread (Some a) None rest h n e some = none-some n e
next_unread (Some a) (Some m) None h n e some = false≢true some
next_unread (Some a) (Some m) (Some more) h n e some = h m refl refl

-- items of which none is bad are read
items_read : {A : Type 0} (read : Data → Option A) (ds : Items) → first_unread read ds ≡ None → IsSome (each read ds)
items_read read no_items e = refl
items_read read (item d ds) e = next_read (read d) (first_unread read ds) (each read ds) (items_read read ds) e

-- items of which one is bad are not
items_unread : {A : Type 0} (read : Data → Option A) (ds : Items) (n : ℕ) → first_unread read ds ≡ Some n → IsSome (each read ds) → ⊥
items_unread read no_items n e some = none-some n e
items_unread read (item d ds) n e some = next_unread (read d) (first_unread read ds) (each read ds) (items_unread read ds) n e some

-- a member of an object, likewise
next_member : (value : Option ℕ) (name : List ℕ) (bad : Option (List ℕ)) (rest : Option Pairs) → (bad ≡ None → IsSome rest)
    → name_or_later value name bad ≡ None → IsSome (option_and_then (λ n. option_map (λ more. (name, n) ∷ more) rest) value)
next_member None name bad rest h e = absurd (none-some name (sym e))
next_member (Some n) name (Some k) rest h e = absurd (none-some k (sym e))
next_member (Some n) name None None h e = h refl
next_member (Some n) name None (Some more) h e = refl

next_no_member : (value : Option ℕ) (name : List ℕ) (bad : Option (List ℕ)) (rest : Option Pairs) → ((k : List ℕ) → bad ≡ Some k → IsSome rest → ⊥)
    → (k : List ℕ) → name_or_later value name bad ≡ Some k → IsSome (option_and_then (λ n. option_map (λ more. (name, n) ∷ more) rest) value) → ⊥
next_no_member None name bad rest h k e some = false≢true some
next_no_member (Some n) name None rest h k e some = none-some k e
next_no_member (Some n) name (Some m) None h k e some = false≢true some
next_no_member (Some n) name (Some m) (Some more) h k e some = h m refl refl

members_read : (ms : Members) → first_member ms ≡ None → IsSome (member_pairs ms)
members_read no_members e = refl
members_read (member k d ms) e = next_member (number_in d) k (first_member ms) (member_pairs ms) (members_read ms) e

members_unread : (ms : Members) (k : List ℕ) → first_member ms ≡ Some k → IsSome (member_pairs ms) → ⊥
members_unread no_members k e some = none-some k e
members_unread (member name d ms) k e some = next_no_member (number_in d) name (first_member ms) (member_pairs ms) (members_unread ms) k e some

or_none : {A : Type 0} (o : Option A) → IsSome o → IsSome (option_or o None)
or_none None h = absurd (false≢true h)
or_none (Some x) h = refl

from_or_none : {A : Type 0} (o : Option A) → IsSome (option_or o None) → IsSome o
from_or_none None h = absurd (false≢true h)
from_or_none (Some x) h = refl

-- a value with no bad part has pairs in it, or is neither an object nor a list
no_part : (d : Data) → IsFirstNoPair d None → IsSome (pairs_in d) ⊎ (as_object d ≡ None) × (as_array d ≡ None)
no_part null h = inr (refl, refl)
no_part (boolean b) h = inr (refl, refl)
no_part (number n) h = inr (refl, refl)
no_part (string s) h = inr (refl, refl)
no_part (array ds) h = inl (items_read pair_in ds h.1)
no_part (object ms) h = inl (or_none (member_pairs ms) (members_read ms h.0))

-- a value with a bad part is an object or a list without pairs
a_part : (d : Data) (bad : NoPair) → IsFirstNoPair d (Some bad) → IsSome (pairs_in d) ⊎ (as_object d ≡ None) × (as_array d ≡ None) → ⊥
a_part null (NoPair.Member name) h e = none-some name.now h
a_part null (NoPair.Item place) h e = none-some place h
a_part (boolean b) (NoPair.Member name) h e = none-some name.now h
a_part (boolean b) (NoPair.Item place) h e = none-some place h
a_part (number n) (NoPair.Member name) h e = none-some name.now h
a_part (number n) (NoPair.Item place) h e = none-some place h
a_part (string s) (NoPair.Member name) h e = none-some name.now h
a_part (string s) (NoPair.Item place) h e = none-some place h
a_part (array ds) (NoPair.Member name) h e = none-some name.now h
a_part (array ds) (NoPair.Item place) h (inl some) = items_unread pair_in ds place h some
a_part (array ds) (NoPair.Item place) h (inr none) = none-some ds (sym none.1)
a_part (object ms) (NoPair.Member name) h (inl some) = members_unread ms name.now h (from_or_none (member_pairs ms) some)
a_part (object ms) (NoPair.Member name) h (inr none) = none-some ms (sym none.0)
a_part (object ms) (NoPair.Item place) h e = none-some place h

-- no part of a value is bad exactly if there are pairs in it, or if it is neither an object nor a list
pub none_exactly : (d : Data) (r : Option NoPair) → IsFirstNoPair d r → (r ≡ None) ↔ (IsSome (pairs_in d) ⊎ (as_object d ≡ None) × (as_array d ≡ None))
none_exactly d None h = (λ e. no_part d h, λ e. refl)
none_exactly d (Some bad) h = (λ e. absurd (none-some bad (sym e)), λ e. absurd (a_part d bad h e))
