-- Changes that are written one after another at the front of two rooms.
use Rattle.std.proofs.Common.{◌≡◌, ℕ, suc, ◌+◌, ◌<◌, ◌≤◌, ◌⊎◌, inl, inr, List, [], ◌∷◌, ◌++◌, length, take, drop, set, refl, sym, ◌∙◌, ap, subst, arith, true, append_assoc, length-append}
use Rattle.std.proofs.lemmas.Bool.{cases_lt}
use Rattle.zerotrie_core.specs.Maps.{Pairs}
use Rattle.zerotrie_core.specs.declared.ZeroTrieBuildError.TheVariants as build
use Rattle.zerotrie_sets.specs.Changes.{changes}
use Rattle.zerotrie_sets.specs.Merges.{Entries}
use Rattle.zerotrie_sets.specs.declared.diff.Change.{Change}
use Rattle.zerotrie_c.specs.Changed.{told_change, told_from}
use Rattle.zerotrie_c.specs.Listed.{joined, IsPut}
use Rattle.zerotrie_c.specs.Sets.{set_status_of, malformed_trie}
use Rattle.zerotrie_c.specs.Statuses.{status_of}
use Rattle.zerotrie_c.specs.declared.diffs.Changed.{Changed}
use Rattle.zerotrie_c.specs.declared.sets.SetError.{SetError}
use Rattle.zerotrie_c.specs.declared.sets.SetError.TheVariants.{Malformed, OutOfMemory}
use Rattle.zerotrie_c.proofs.PartLemmas.{first_end, next_end, joined_more, put_more, set_more}

told_more : (n : ℕ) (rows : Entries Change) (k : List ℕ) (v : Change) → told_from n (rows ++ (k, v) ∷ []) ≡ told_from n rows ++ told_change (n + length (joined rows) + length k) v ∷ []
told_more n [] k v = ap (λ e. told_change e v ∷ []) (first_end n (length k))
told_more n (r ∷ rows) k v =
    ap (λ x. told_change (n + length r.0) r.1 ∷ x)
    (told_more (n + length r.0) rows k v
    ∙ ap (λ e. told_from (n + length r.0) rows ++ told_change e v ∷ []) (next_end n (length r.0) (length (joined rows)) (length k) (length (joined (r ∷ rows))) (length-append r.0 (joined rows))))

told_len : (n : ℕ) (rows : Entries Change) → length (told_from n rows) ≡ length rows
told_len n [] = refl
told_len n (r ∷ rows) = ap suc (told_len (n + length r.0) rows)

-- Of the changes these are left, and the others are written.
pub record Telling (rows left : Entries Change) (old_keys keys : List ℕ) (old_places places : List Changed) (count used : ℕ) : Type 0 where
  pub written : Entries Change
  pub parts : rows ≡ written ++ left
  pub count_is : count ≡ length written
  pub used_is : used ≡ length (joined written)
  pub keys_are : IsPut (joined written) true old_keys keys
  pub places_are : IsPut (told_from 0 written) true old_places places

-- one change more
pub telling_more : {rows left : Entries Change} {old_keys keys : List ℕ} {old_places places : List Changed} {count used : ℕ}
    → Telling rows left old_keys keys old_places places count used
    → (key : List ℕ) (v : Change) (after : Entries Change) → left ≡ (key, v) ∷ after
    → used + length key ≤ length keys → count < length places
    → Telling rows after old_keys (take used keys ++ (key ++ drop (used + length key) keys)) old_places (set places count (told_change (used + length key) v)) (count + 1) (used + length key)
telling_more {rows} {left} {old_keys} {keys} {old_places} {places} {count} {used} g key v after is fits room =
    let w = g.written in
    let e : Entries Change = (key, v) ∷ [] in
    let used_is = g.used_is in
    let place : 0 + length (joined w) + length key ≡ used + length key = omega (arith, used_is) in
    let end : told_from 0 (w ++ e) ≡ told_from 0 w ++ told_change (used + length key) v ∷ [] =
    told_more 0 w key v ∙ ap (λ n. told_from 0 w ++ told_change n v ∷ []) place in
    record {
      written = w ++ e;
      parts = g.parts ∙ ap (λ l. w ++ l) is ∙ sym (append_assoc w e after);
      count_is = ap (λ n. n + 1) g.count_is ∙ sym (length-append w e);
      used_is = ap (λ n. n + length key) g.used_is ∙ sym (length-append (joined w) key) ∙ ap length (sym (joined_more w key v));
      keys_are = subst (λ x. IsPut x true old_keys (take used keys ++ (key ++ drop (used + length key) keys))) (sym (joined_more w key v)) (put_more (joined w) key old_keys keys used g.keys_are g.used_is fits);
      places_are = subst (λ x. IsPut x true old_places (set places count (told_change (used + length key) v))) (sym end)
          (set_more (told_from 0 w) (told_change (used + length key) v) old_places places count g.places_are (g.count_is ∙ sym (told_len 0 w)) room);
    }

-- some room has too few places
no_place : (keys places used count len : ℕ) → (used + len ≤ keys → count < places → ⊥) → (keys < used + len) ⊎ (places ≤ count)
no_place keys places used count len full = elim (cases_lt keys (used + len)) [
  | inl short ↦ inl short
  | inr fits ↦ elim (cases_lt count places) [
    | inr few ↦ inr few
    | inl some ↦ absurd (full fits some)
  ]
]

-- the changes of equal pairs
pub changes_same : {a b p q : Pairs} → a ≡ p → b ≡ q → changes a b ≡ changes p q
changes_same {b = b} {p = p} e f = ap (λ x. changes x b) e ∙ ap (λ y. changes p y) f

-- why the pairs of a trie are not listed, as C is told of it
pub told_no_trie : {P Q : Type 0} {e : SetError} {status : ℕ} → status ≡ set_status_of e → (P → Q) → (e ≡ OutOfMemory) ⊎ ((e ≡ Malformed) × P)
    → ((status ≡ malformed_trie) × Q) ⊎ (status ≡ status_of build.OutOfMemory)
told_no_trie is f (inl full) = inr (is ∙ ap set_status_of full)
told_no_trie is f (inr bad) = inl (is ∙ ap set_status_of bad.0, f bad.1)
