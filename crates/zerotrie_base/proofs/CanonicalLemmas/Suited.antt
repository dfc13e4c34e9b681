-- Pairs that suit a kind have no cause of an error.
use Rattle.std.proofs.Common.{◌≡◌, ℕ, zero, suc, ◌+◌, ◌^◌, ◌<◌, ◌≤◌, List, [], ◌∷◌, length, refl, sym, ◌∙◌, ap, subst, arith, inl, inr, ◌⊎◌, true, cond, ltb, Ordering, Less, Equal, Greater, get_or, Result, Ok, Err, lit<, map}
use Rattle.std.specs.Prelude.{◌&&◌, ◌==◌, All, Any, Contains, IfErr, IsOk}
use Rattle.std.specs.List.{list_all}
use Rattle.std.proofs.lemmas.Bool.{ltb-true, eqb-true, and_parts}
use Rattle.std.specs.FinMap.{entries}
use Rattle.std.specs.Ordering.{nat_cmp, is_lt}
use Rattle.std.specs.Cmp.Lexicographic.{slice_cmp}
use Rattle.zerotrie_base.specs.Kind.{Kind, simple_ascii, ignore_case, perfect_hash, extended_capacity, IsAscii, same_byte, fold_byte, edge_limit, greatest_width}
use Rattle.zerotrie_base.specs.Maps.{Pairs, map_of, edges, behind_all, common_front, IsCaseConsistent, Ascends, AscendsIn, RepeatsKey, folded}
use Rattle.zerotrie_base.specs.Bounds.{build_bound, Suits, are_ascending, are_own_bytes, is_clean}
use Rattle.zerotrie_base.specs.Fits.{ExceedsCapacity}
use Rattle.zerotrie_base.specs.Causes.{Cause}
use Rattle.zerotrie_base.specs.Routes.{Route, ascending, in_order, any_order, Takes, HasCause, IsBuild}
use Rattle.zerotrie_base.specs.ArrayRoutes.{IsRefusalWithin, IsBuildWithin, IsBuildCopied}
use Rattle.zerotrie_base.specs.declared.error.ZeroTrieBuildError.{ZeroTrieBuildError}
use Rattle.zerotrie_base.specs.declared.error.ZeroTrieBuildError.TheVariants.{NonAsciiError, CapacityExceeded, CouldNotSolvePerfectHash, MixedCase, IllegalDelimiter, DuplicateKey, Unsorted, BufferTooSmall, BufferTooLarge, StackExceeded, OutOfMemory}
use Rattle.zerotrie_base.proofs.MapLemmas.Alike.{same-entries, same-targets, same-behind}
use Rattle.zerotrie_base.proofs.MapLemmas.Kinds.{ascii_sorted}
use Rattle.zerotrie_base.proofs.PlainLemmas.Refusals.{ascends_apart}
use Rattle.zerotrie_base.proofs.CanonicalLemmas.Bounds.{hashed_many, size_bound, stack_bound, targets_size_bound, edges_bound, behind_bound, behind_count, entries_count}

suits_short : (kind : Kind) (n : ℕ) → n < 256 ^ (greatest_width kind + 1) → n < 2 ^ 64
suits_short simple_ascii n h = let a : 256 ^ (3 + 1) < 2 ^ 64 = lit< tt in omega arith
suits_short ignore_case n h = let a : 256 ^ (3 + 1) < 2 ^ 64 = lit< tt in omega arith
suits_short perfect_hash n h = let a : 256 ^ (3 + 1) < 2 ^ 64 = lit< tt in omega arith
suits_short extended_capacity n h = let a : 256 ^ (7 + 1) ≡ 2 ^ 64 = refl in omega arith

within_capacity : (kind : Kind) (pairs : Pairs) → build_bound pairs < 256 ^ (greatest_width kind + 1) → ExceedsCapacity kind (map_of pairs) → ⊥
within_capacity kind pairs small too_long =
    let short = suits_short kind (build_bound pairs) small in
    elim too_long [
      | inl long ↦ (let most = size_bound kind pairs short in absurd (omega arith))
      | inr wide ↦ (
          let front = wide.0 in
          let same = same-targets kind (behind_all front (entries (map_of pairs))) (behind_all front pairs) (same-behind front (entries (map_of pairs)) pairs (same-entries pairs)) in
          let less = behind_bound front pairs in
          let most = targets_size_bound kind (behind_all front pairs) (omega arith) in
          let reach = wide.1.1 in
          absurd (omega arith))
    ]

all_any : {X : Type 0} (P Q : X → Type 0) (xs : List X) → All P xs → Any Q xs → ((x : X) → P x → Q x → ⊥) → ⊥
all_any P Q xs all any never = never any.1 (subst P any.3 (all any.0 any.1 any.2)) any.4

-- a byte that the kind takes as it is
abbrev Own : Kind → ℕ → Type 0
Own kind b = (b < edge_limit kind) × (fold_byte kind b ≡ b)

common_same : (kind : Kind) (a b : ℕ) (k l : List ℕ) → Own kind a → Own kind b → common_front (same_byte kind) k l ≡ common_front (λ a b. a == b) k l
    → common_front (same_byte kind) (a ∷ k) (b ∷ l) ≡ common_front (λ a b. a == b) (a ∷ k) (b ∷ l)
common_same kind a b k l x y same =
    ap (λ n. cond (same_byte kind a b) (1 + n) 0) same
    ∙ ap (λ f. cond (f == fold_byte kind b) (1 + common_front (λ a b. a == b) k l) 0) x.1
    ∙ ap (λ f. cond (a == f) (1 + common_front (λ a b. a == b) k l) 0) y.1

own_front : (kind : Kind) (k l : List ℕ) → All (Own kind) k → All (Own kind) l → common_front (same_byte kind) k l ≡ common_front (λ a b. a == b) k l
own_front kind [] l x y = refl
own_front kind (a ∷ k) [] x y = refl
own_front kind (a ∷ k) (b ∷ l) x y =
    common_same kind a b k l (x 0 a (omega arith)) (y 0 b (omega arith)) (own_front kind k l (λ i d h. x (suc i) d (omega arith)) (λ i d h. y (suc i) d (omega arith)))

suits_consistent : (kind : Kind) (pairs : Pairs) → Suits kind pairs → IsCaseConsistent kind pairs
suits_consistent kind pairs suits i d h j c g = own_front kind (get_or pairs i d).0 (get_or pairs j c).0 (suits.key_bytes i d h) (suits.key_bytes j c g)

-- The only cause that pairs can have that a route takes and that suit the kind is that no table was found.
pub only_search : (route : Route) (kind : Kind) (pairs : Pairs) (e : ZeroTrieBuildError) → Takes route pairs → Suits kind pairs → HasCause route kind pairs e → e ≡ CouldNotSolvePerfectHash
only_search route kind pairs NonAsciiError takes suits cause =
    absurd (all_any (λ e. All (Own kind) e.0) (λ e. Any (λ b. edge_limit kind ≤ b) e.0) pairs suits.key_bytes cause.1
    (λ e own high. all_any (Own kind) (λ b. edge_limit kind ≤ b) e.0 own high (λ b is h. omega (arith, is.0))))
only_search route kind pairs CapacityExceeded takes suits cause = absurd (within_capacity kind pairs suits.small cause.1.1)
only_search route kind pairs MixedCase takes suits cause = absurd (cause.1 (suits_consistent kind pairs suits))
only_search ascending kind pairs DuplicateKey takes suits cause = absurd (cause.0 refl)
only_search in_order kind pairs DuplicateKey takes suits cause = absurd (cause.0 (inl refl))
only_search any_order kind pairs DuplicateKey takes suits cause = absurd (takes cause.1)
only_search ascending kind pairs Unsorted takes suits cause = absurd (cause.1 takes)
only_search in_order kind pairs Unsorted takes suits cause = absurd (cause.1 takes)
only_search any_order kind pairs Unsorted takes suits cause = absurd (cause.0 refl)
only_search route kind pairs CouldNotSolvePerfectHash takes suits cause = refl
only_search route kind pairs IllegalDelimiter takes suits cause = absurd cause.1
only_search route kind pairs BufferTooSmall takes suits cause = absurd cause.1
only_search route kind pairs (BufferTooLarge needed) takes suits cause = absurd cause.1
only_search route kind pairs StackExceeded takes suits cause = absurd cause.1
only_search route kind pairs OutOfMemory takes suits cause = absurd cause.1

-- no table is searched for: the kind has none that is hashed, or no branch has so many edges
abbrev pub NeedsNoSearch : Kind → Pairs → Type 0
NeedsNoSearch kind pairs = IsAscii kind ⊎ (length pairs < 16)

no_search : (kind : Kind) (pairs : Pairs) → NeedsNoSearch kind pairs → Cause kind pairs CouldNotSolvePerfectHash → ⊥
no_search kind pairs none cause =
    let p = behind_all cause.1.0 (entries (map_of pairs)) in
    let hashed = cause.1.1.0 in
    elim none [
      | inl ascii ↦ (let sorted = ascii_sorted kind ascii (length (edges p)) in absurd (cc))
      | inr few ↦ (
          let many = hashed_many kind (length (edges p)) hashed in
          let one = edges_bound p in
          let two = behind_count cause.1.0 (entries (map_of pairs)) in
          let three = entries_count pairs in
          absurd (omega arith))
    ]

-- No cause holds of pairs that a route takes, that suit the kind, and that need no table to be searched for.
pub no_cause : (route : Route) (kind : Kind) (pairs : Pairs) (e : ZeroTrieBuildError) → Takes route pairs → Suits kind pairs → NeedsNoSearch kind pairs → HasCause route kind pairs e → ⊥
no_cause route kind pairs e takes suits none cause =
    let is = only_search route kind pairs e takes suits cause in
    no_search kind pairs none (subst (Cause kind pairs) is cause.1)

-- So the only error of a build of them is out of memory.
pub only_memory : {B : Type 0} (route : Route) (kind : Kind) (bytes : B → List ℕ) (pairs : Pairs) (r : Result B ZeroTrieBuildError) → Takes route pairs → Suits kind pairs → NeedsNoSearch kind pairs
    → IsBuild route kind bytes pairs r → IfErr r (λ e. e ≡ OutOfMemory)
only_memory route kind bytes pairs (Ok b) takes suits none build = tt
only_memory route kind bytes pairs (Err e) takes suits none build = elim build [ inl memory ↦ memory | inr cause ↦ absurd (no_cause route kind pairs e takes suits none cause) ]

-- keys that are one are one in lower case
contained_folded : (kind : Kind) (key : List ℕ) (pairs : Pairs) → Contains (map {B = List ℕ} (λ f. f.0) pairs) key → Contains (map {B = List ℕ} (λ f. f.0) (folded kind pairs)) (map (fold_byte kind) key)
contained_folded kind key pairs c = let found = at c.0 pairs c.1 c.2 in (c.0, found.0, found.1)
  where
    at : (i : ℕ) (es : Pairs) → i < length (map {B = List ℕ} (λ f. f.0) es) → get_or (map {B = List ℕ} (λ f. f.0) es) i key ≡ key
        → (i < length (map {B = List ℕ} (λ f. f.0) (folded kind es))) × (get_or (map {B = List ℕ} (λ f. f.0) (folded kind es)) i (map (fold_byte kind) key) ≡ map (fold_byte kind) key)
    at i [] l same = absurd (omega arith)
    at zero (e ∷ es) l same = (omega arith, ap (map (fold_byte kind)) same)
    at (suc i) (e ∷ es) l same = let rest = at i es (omega arith) same in (omega (arith, rest.0), rest.1)

repeats_folded : (kind : Kind) (pairs : Pairs) → RepeatsKey pairs → RepeatsKey (folded kind pairs)
repeats_folded kind [] again = again
repeats_folded kind (e ∷ pairs) again = elim again [
  | inl here ↦ inl (contained_folded kind e.0 pairs here)
  | inr later ↦ inr (repeats_folded kind pairs later)
]

-- Keys that ascend in the order of a kind are apart.
pub ascends_in_apart : (kind : Kind) (pairs : Pairs) → AscendsIn kind pairs → RepeatsKey pairs → ⊥
ascends_in_apart simple_ascii pairs up again = ascends_apart pairs up again
ascends_in_apart ignore_case pairs up again = ascends_apart (folded ignore_case pairs) up (repeats_folded ignore_case pairs again)
ascends_in_apart perfect_hash pairs up again = ascends_apart pairs up again
ascends_in_apart extended_capacity pairs up again = ascends_apart pairs up again

-- Pairs that no build into an array refuses if it has room for the bound: the keys ascend in the order of the kind, have its bytes and agree in case.
pub record SuitsArray (kind : Kind) (pairs : Pairs) : Type 0 where
  pub ascends : AscendsIn kind pairs
  pub key_bytes : All (λ e. All (λ b. b < edge_limit kind) e.0) pairs
  pub case : IsCaseConsistent kind pairs
  pub small : build_bound pairs < 256 ^ (greatest_width kind + 1)

-- Such a build has no error.
pub no_array_cause : (kind : Kind) (n k : ℕ) (pairs : Pairs) (e : ZeroTrieBuildError) → SuitsArray kind pairs → build_bound pairs ≤ n → length pairs ≤ k → IsRefusalWithin kind n k pairs e → ⊥
no_array_cause kind n k pairs NonAsciiError suits room waits refusal =
    all_any (λ e. All (λ b. b < edge_limit kind) e.0) (λ e. Any (λ b. edge_limit kind ≤ b) e.0) pairs suits.key_bytes refusal.1
    (λ e low high. all_any (λ b. b < edge_limit kind) (λ b. edge_limit kind ≤ b) e.0 low high (λ b l h. omega arith))
no_array_cause kind n k pairs CapacityExceeded suits room waits refusal = within_capacity kind pairs suits.small refusal.1.1
no_array_cause kind n k pairs MixedCase suits room waits refusal = refusal.1 suits.case
no_array_cause kind n k pairs Unsorted suits room waits refusal = refusal.1 suits.ascends
no_array_cause kind n k pairs BufferTooSmall suits room waits refusal =
    let most = size_bound kind pairs (suits_short kind (build_bound pairs) suits.small) in
    let less = refusal.1.1 in
    absurd (omega arith)
no_array_cause kind n k pairs (BufferTooLarge needed) suits room waits refusal = refusal.0 needed refl
no_array_cause kind n k pairs StackExceeded suits room waits refusal = let most = stack_bound kind pairs in let less = refusal.1.1 in absurd (omega arith)
no_array_cause kind n k pairs DuplicateKey suits room waits refusal = refusal.1
no_array_cause kind n k pairs CouldNotSolvePerfectHash suits room waits refusal = refusal.1
no_array_cause kind n k pairs IllegalDelimiter suits room waits refusal = refusal.1
no_array_cause kind n k pairs OutOfMemory suits room waits refusal = refusal.1

pub built_within : {B : Type 0} (kind : Kind) (n k : ℕ) (bytes : B → List ℕ) (pairs : Pairs) (r : Result B ZeroTrieBuildError) → SuitsArray kind pairs → build_bound pairs ≤ n → length pairs ≤ k
    → IsBuildWithin kind n k bytes pairs r → IsOk r
built_within kind n k bytes pairs (Ok b) suits room waits build = refl
built_within kind n k bytes pairs (Err e) suits room waits build = absurd (no_array_cause kind n k pairs e suits room waits build)

pub copied_within : {B : Type 0} (kind : Kind) (n k : ℕ) (bytes : B → List ℕ) (pairs : Pairs) (r : Result B ZeroTrieBuildError) → SuitsArray kind pairs → build_bound pairs ≤ n → length pairs ≤ k
    → IsBuildCopied kind n k bytes pairs r → IfErr r (λ e. e ≡ OutOfMemory)
copied_within kind n k bytes pairs (Ok b) suits room waits build = tt
copied_within kind n k bytes pairs (Err e) suits room waits build = elim build [ inl memory ↦ memory | inr refusal ↦ absurd (no_array_cause kind n k pairs e suits room waits refusal) ]

-- So do pairs whose keys ascend by their bytes and that suit the kind.
pub suits_array : (kind : Kind) (pairs : Pairs) → Ascends pairs → Suits kind pairs → SuitsArray kind pairs
suits_array kind pairs up suits = record {
  ascends = ascends_own kind pairs up suits;
  key_bytes = λ i d h j c g. (suits.key_bytes i d h j c g).0;
  case = suits_consistent kind pairs suits;
  small = suits.small;
}
  where
    own_key : (kind : Kind) (key : List ℕ) → All (Own kind) key → map (fold_byte kind) key ≡ key
    own_key kind [] own = refl
    own_key kind (b ∷ key) own =
        ap (λ c. c ∷ map (fold_byte kind) key) (own 0 b (omega arith)).1 ∙ ap (λ k. b ∷ k) (own_key kind key (λ i d h. own (suc i) d (omega arith)))

    own_pairs : (kind : Kind) (pairs : Pairs) → All (λ e. All (Own kind) e.0) pairs → folded kind pairs ≡ pairs
    own_pairs kind [] own = refl
    own_pairs kind (e ∷ pairs) own =
        ap (λ k. (k, e.1) ∷ folded kind pairs) (own_key kind e.0 (own 0 e (omega arith))) ∙ ap (λ ps. e ∷ ps) (own_pairs kind pairs (λ i d h. own (suc i) d (omega arith)))

    ascends_own : (kind : Kind) (pairs : Pairs) → Ascends pairs → Suits kind pairs → AscendsIn kind pairs
    ascends_own simple_ascii pairs up suits = up
    ascends_own ignore_case pairs up suits = subst Ascends (sym (own_pairs ignore_case pairs suits.key_bytes)) up
    ascends_own perfect_hash pairs up suits = up
    ascends_own extended_capacity pairs up suits = up

-- What the test of a table tells.

less_told : (o : Ordering) → is_lt o ≡ true → o ≡ Less
less_told Less h = refl
less_told Equal h = absurd (cc)
less_told Greater h = absurd (cc)

ascends_told : (pairs : Pairs) → are_ascending pairs ≡ true → Ascends pairs
ascends_told [] h = tt
ascends_told (e ∷ []) h = (tt, tt)
ascends_told (e ∷ f ∷ pairs) h =
    let r = and_parts (is_lt (slice_cmp nat_cmp e.0 f.0)) (are_ascending (f ∷ pairs)) h in
    (less_told (slice_cmp nat_cmp e.0 f.0) r.0, ascends_told (f ∷ pairs) r.1)

own_told : (kind : Kind) (key : List ℕ) → are_own_bytes kind key ≡ true → All (Own kind) key
own_told kind [] h i d l = absurd (omega arith)
own_told kind (b ∷ key) h zero d l =
    let r = and_parts (ltb b (edge_limit kind) && (fold_byte kind b == b)) (are_own_bytes kind key) h in
    let s = and_parts (ltb b (edge_limit kind)) (fold_byte kind b == b) r.0 in
    (ltb-true b (edge_limit kind) s.0, eqb-true (fold_byte kind b) b s.1)
own_told kind (b ∷ key) h (suc i) d l =
    let r = and_parts (ltb b (edge_limit kind) && (fold_byte kind b == b)) (are_own_bytes kind key) h in
    own_told kind key r.1 i d (omega arith)

keys_told : (kind : Kind) (pairs : Pairs) → list_all (λ e. are_own_bytes kind e.0) pairs ≡ true → All (λ e. All (Own kind) e.0) pairs
keys_told kind [] h i d l = absurd (omega arith)
keys_told kind (e ∷ pairs) h zero d l = own_told kind e.0 (and_parts (are_own_bytes kind e.0) (list_all (λ e. are_own_bytes kind e.0) pairs) h).0
keys_told kind (e ∷ pairs) h (suc i) d l = keys_told kind pairs (and_parts (are_own_bytes kind e.0) (list_all (λ e. are_own_bytes kind e.0) pairs) h).1 i d (omega arith)

-- The keys of a clean table ascend, and it suits the kind.
pub clean_told : (kind : Kind) (pairs : Pairs) → is_clean kind pairs ≡ true → Ascends pairs × Suits kind pairs
unfolding is_clean
clean_told kind pairs h =
    let small = ltb (build_bound pairs) (256 ^ (greatest_width kind + 1)) in
    let r = and_parts (are_ascending pairs && list_all (λ e. are_own_bytes kind e.0) pairs) small h in
    let s = and_parts (are_ascending pairs) (list_all (λ e. are_own_bytes kind e.0) pairs) r.0 in
    (ascends_told pairs s.0, record { key_bytes = keys_told kind pairs s.1; small = ltb-true (build_bound pairs) (256 ^ (greatest_width kind + 1)) r.1 })

-- Every route takes keys that ascend.
pub ascends_taken : (route : Route) (pairs : Pairs) → Ascends pairs → Takes route pairs
ascends_taken ascending pairs up = up
ascends_taken in_order pairs up = up
ascends_taken any_order pairs up = ascends_apart pairs up
