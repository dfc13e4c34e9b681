-- Keys, bounds and words as a kind compares them.
use Rattle.std.proofs.Common.{◌≡◌, ◌≢◌, ℕ, zero, suc, List, [], ◌∷◌, Bool, true, false, ◌+◌, ◌-◌, ◌<◌, ◌^◌, arith, length, refl, sym, ap, ◌∙◌, subst, Option, Some, None}
use Rattle.std.specs.Prelude.{◌&&◌, ◌==◌, ◌||◌, is_some, unwrap_or, if◌then◌else◌}
use Rattle.std.specs.Borrow.{Bor}
use Rattle.std.specs.Option.{option_map}
use Rattle.std.specs.Range.Bound.{bound_map, bounds_contain}
use Rattle.std.specs.declared.ops.Bound.{Bound}
use Rattle.std.specs.declared.ops.Bound.TheVariants.{Included, Excluded, Unbounded}
use Rattle.std.proofs.lemmas.List.{map-id}
use Rattle.std.proofs.lemmas.Str.Ascii.{lowercase-lowercase}
use Rattle.zerotrie_core.specs.Kind.{Kind, simple_ascii, ignore_case, perfect_hash, extended_capacity, fold_byte, same_byte}
use Rattle.zerotrie_core.specs.Kinds.{kind_of}
use Rattle.std.specs.FinMap.{entries}
use Rattle.zerotrie_core.specs.Maps.{Pairs, Map, begins_with, map_of}
use Rattle.zerotrie_core.specs.Texts.{Lists, Means}
use Rattle.zerotrie_core.specs.declared.TrieKind.{TrieKind}
use Rattle.zerotrie_core.specs.declared.TrieKind.TheVariants.{Simple, Ignore, Hash, Ext}
use Rattle.zerotrie_index.specs.Tries.{folded_key}
use Rattle.zerotrie_search.specs.Automata.{edits_to, finds_by, finds_in, ignores_case, most_by, word_by}
use Rattle.zerotrie_search.specs.Sets.{by_bytes, some_front}
use Rattle.zerotrie_queries.specs.Chosen.{at_edits, by_edits, sought_at, closest, edits_matched, edits_of, folded_bound, measured, is_in, is_kept, is_matched, is_chosen, is_word, told_edits, word_of, chosen, IsFolded, AreWordsOf, HasWords}
use Rattle.zerotrie_queries.specs.Found.{found_from}
use Rattle.zerotrie_queries.specs.Near.{edits_from}
use Rattle.zerotrie_queries.specs.Sorted.{is_free, is_prefix_alone, picked}
use Rattle.zerotrie_queries.specs.declared.folding.FoldedWords.{FoldedWords}
use Rattle.zerotrie_queries.specs.declared.question.Choice.{Choice}
use Rattle.zerotrie_queries.specs.declared.question.Order.{Order}
use Rattle.zerotrie_queries.specs.declared.question.Order.TheVariants.{Stored, ByBytes, Closest, Nearest}
use Rattle.zerotrie_queries.specs.declared.question.Sought.{Sought}
use Rattle.zerotrie_search.specs.Nearest.{measured_up_to, nearest}
use Rattle.zerotrie_search.specs.declared.any.SearchBy.{SearchBy}
use Rattle.zerotrie_search.specs.declared.any.SearchBy.TheVariants as by
use Rattle.zerotrie_queries.proofs.BeginsLemmas.{none_from}
use Rattle.zerotrie_queries.proofs.NearLemmas.{nearest_alike}
use Rattle.zerotrie_queries.proofs.ChoiceLemmas.{accepted_alike}

some_inj : {A : Type 0} {x y : A} → Some x ≡ Some y → x ≡ y
some_inj {A} {x} {y} h = ap (λ o. unwrap_or o x) h

-- what is folded stays as it is
byte_twice : (kind : Kind) (b : ℕ) → fold_byte kind (fold_byte kind b) ≡ fold_byte kind b
byte_twice simple_ascii b = refl
byte_twice ignore_case b = lowercase-lowercase b
byte_twice perfect_hash b = refl
byte_twice extended_capacity b = refl

pub key_twice : (kind : Kind) (key : List ℕ) → folded_key kind (folded_key kind key) ≡ folded_key kind key
key_twice kind [] = refl
key_twice kind (b ∷ key) = rw (byte_twice kind b) (ap (λ l. fold_byte kind b ∷ l) (key_twice kind key))

pub bound_twice : (kind : TrieKind) (bound : Bound (List ℕ)) → folded_bound kind (folded_bound kind bound) ≡ folded_bound kind bound
bound_twice kind (Included key) = ap (λ k. Included k) (key_twice (kind_of kind) key)
bound_twice kind (Excluded key) = ap (λ k. Excluded k) (key_twice (kind_of kind) key)
bound_twice kind Unbounded = refl

-- where case counts, a key is compared as it is
pub exact_key : (kind : TrieKind) → kind ≢ Ignore → (key : List ℕ) → folded_key (kind_of kind) key ≡ key
exact_key Simple h key = map-id key
exact_key Ignore h key = absurd (h refl)
exact_key Hash h key = map-id key
exact_key Ext h key = map-id key

-- a prefix begins the same keys
same_folded : (kind : Kind) (b c : ℕ) → same_byte kind b (fold_byte kind c) ≡ same_byte kind b c
same_folded kind b c = ap (λ x. fold_byte kind b == x) (byte_twice kind c)

prefix_folded : (kind : Kind) (prefix key : List ℕ) → begins_with kind (folded_key kind prefix) key ≡ begins_with kind prefix key
prefix_folded kind [] key = refl
prefix_folded kind (c ∷ prefix) [] = refl
prefix_folded kind (c ∷ prefix) (b ∷ key) = rw (same_folded kind b c, prefix_folded kind prefix key) refl

-- a word that is as the kind compares keys stays so, and with other edits, too
word_twice : (kind : TrieKind) (b : SearchBy) (word : List ℕ) → word_by (kind_of kind) b (word_by (kind_of kind) b word) ≡ word_by (kind_of kind) b word
word_twice kind by.Prefix word = key_twice (kind_of kind) word
word_twice kind by.Glob word = refl
word_twice kind by.GlobChars word = refl
word_twice kind by.Subsequence word = key_twice (kind_of kind) word
word_twice kind (by.Fuzzy edits) word = key_twice (kind_of kind) word
word_twice kind (by.FuzzyChars edits) word = key_twice (kind_of kind) word
word_twice kind (by.Swaps edits) word = key_twice (kind_of kind) word
word_twice kind (by.SwapsChars edits) word = key_twice (kind_of kind) word

word_edited : (kind : TrieKind) (e : ℕ) (b : SearchBy) (word : List ℕ) → word_by (kind_of kind) (by_edits e b) word ≡ word_by (kind_of kind) b word
word_edited kind e by.Prefix word = refl
word_edited kind e by.Glob word = refl
word_edited kind e by.GlobChars word = refl
word_edited kind e by.Subsequence word = refl
word_edited kind e (by.Fuzzy edits) word = refl
word_edited kind e (by.FuzzyChars edits) word = refl
word_edited kind e (by.Swaps edits) word = refl
word_edited kind e (by.SwapsChars edits) word = refl

-- the word of a choice is folded
word_folded : (kind : TrieKind) (o p : Option Sought) (word : List ℕ) → word ≡ word_of kind o
    → option_map (λ s. s.by) p ≡ option_map (λ s. s.by) o → option_map (λ s. s.word.now) p ≡ option_map (λ _. word) o → option_map (λ s. word_by (kind_of kind) s.by s.word.now) p ≡ option_map (λ s. s.word.now) p
word_folded kind None None word is by has = refl
word_folded kind None (Some t) word is by has = absurd (cc)
word_folded kind (Some s) None word is by has = absurd (cc)
word_folded kind (Some s) (Some t) word is by has =
    let same : t.word.now ≡ word_by (kind_of kind) s.by s.word.now = some_inj has ∙ is in
    ap (λ w. Some w) (ap (λ b. word_by (kind_of kind) b t.word.now) (some_inj by) ∙ ap (word_by (kind_of kind) s.by) same ∙ word_twice kind s.by s.word.now ∙ sym same)

-- the words of a choice are folded
pub words_folded : (kind : TrieKind) (c : Choice) (words : FoldedWords) (d : Choice) → AreWordsOf kind c words → HasWords words c d → IsFolded kind d
words_folded kind c words d are has = record {
  from = ap (folded_bound kind) (has.from ∙ are.from) ∙ bound_twice kind (bound_map (λ b. b.now) c.range.from) ∙ sym (has.from ∙ are.from);
  to = ap (folded_bound kind) (has.to ∙ are.to) ∙ bound_twice kind (bound_map (λ b. b.now) c.range.to) ∙ sym (has.to ∙ are.to);
  word = word_folded kind c.sought d.sought words.word.items are.word has.by has.word;
}

-- a word that is folded finds the same keys
matched_as : (kind : TrieKind) (b : SearchBy) (begins : Bool) (word other key : List ℕ) → word_by (kind_of kind) b word ≡ word_by (kind_of kind) b other
    → (is_word b (word_by (kind_of kind) b word) && found_from begins (finds_by (kind_of kind) b word) key) ≡ (is_word b (word_by (kind_of kind) b other) && found_from begins (finds_by (kind_of kind) b other) key)
matched_as kind b begins word other key same = ap (λ w. is_word b w && found_from begins (λ k. finds_in (ignores_case (kind_of kind)) b w (folded_key (kind_of kind) k)) key) same

matched_folded : (kind : TrieKind) (o p : Option Sought) (word key : List ℕ) → word ≡ word_of kind o
    → option_map (λ s. s.by) p ≡ option_map (λ s. s.by) o → option_map (λ s. s.word.now) p ≡ option_map (λ _. word) o → option_map (λ s. s.begins) p ≡ option_map (λ s. s.begins) o → is_matched kind p key ≡ is_matched kind o key
matched_folded kind None None word key is by has begins = refl
matched_folded kind None (Some t) word key is by has begins = absurd (cc)
matched_folded kind (Some s) None word key is by has begins = absurd (cc)
matched_folded kind (Some s) (Some t) word key is by has begins =
    let same : word_by (kind_of kind) s.by t.word.now ≡ word_by (kind_of kind) s.by s.word.now = ap (word_by (kind_of kind) s.by) (some_inj has ∙ is) ∙ word_twice kind s.by s.word.now in
    rw (some_inj by, some_inj begins) (matched_as kind s.by s.begins t.word.now s.word.now key same)

-- and by as many edits
edits_as : (kind : TrieKind) (b : SearchBy) (begins : Bool) (word other key : List ℕ) → word_by (kind_of kind) b word ≡ word_by (kind_of kind) b other
    → (if is_word b (word_by (kind_of kind) b word) then edits_from begins (edits_to (ignores_case (kind_of kind)) b (word_by (kind_of kind) b word)) (folded_key (kind_of kind) key) else None)
    ≡ (if is_word b (word_by (kind_of kind) b other) then edits_from begins (edits_to (ignores_case (kind_of kind)) b (word_by (kind_of kind) b other)) (folded_key (kind_of kind) key) else None)
edits_as kind b begins word other key same = ap (λ w. if is_word b w then edits_from begins (edits_to (ignores_case (kind_of kind)) b w) (folded_key (kind_of kind) key) else None) same

edits_folded : (kind : TrieKind) (o p : Option Sought) (word key : List ℕ) → word ≡ word_of kind o
    → option_map (λ s. s.by) p ≡ option_map (λ s. s.by) o → option_map (λ s. s.word.now) p ≡ option_map (λ _. word) o → option_map (λ s. s.begins) p ≡ option_map (λ s. s.begins) o → edits_matched kind p key ≡ edits_matched kind o key
edits_folded kind None None word key is by has begins = refl
edits_folded kind None (Some t) word key is by has begins = absurd (cc)
edits_folded kind (Some s) None word key is by has begins = absurd (cc)
edits_folded kind (Some s) (Some t) word key is by has begins =
    let same : word_by (kind_of kind) s.by t.word.now ≡ word_by (kind_of kind) s.by s.word.now = ap (word_by (kind_of kind) s.by) (some_inj has ∙ is) ∙ word_twice kind s.by s.word.now in
    rw (some_inj by, some_inj begins) (edits_as kind s.by s.begins t.word.now s.word.now key same)

-- so are the bounds
in_folded : (kind : TrieKind) (c d : Choice) (key : List ℕ) → bound_map (λ b. b.now) d.range.from ≡ folded_bound kind (bound_map (λ b. b.now) c.range.from)
    → bound_map (λ b. b.now) d.range.to ≡ folded_bound kind (bound_map (λ b. b.now) c.range.to) → is_in kind d.range key ≡ is_in kind c.range key
in_folded kind c d key from to =
    let f = ap (folded_bound kind) from ∙ bound_twice kind (bound_map (λ b. b.now) c.range.from) in
    let t = ap (folded_bound kind) to ∙ bound_twice kind (bound_map (λ b. b.now) c.range.to) in
    rw (f, t) refl

-- a choice with the folded words of another one chooses the same keys
kept_folded : (kind : TrieKind) (c : Choice) (words : FoldedWords) (d : Choice) → AreWordsOf kind c words → HasWords words c d → (key : List ℕ) → is_kept kind d key ≡ is_kept kind c key
kept_folded kind c words d are has key =
    let begins : begins_with (kind_of kind) d.prefix.now key ≡ begins_with (kind_of kind) c.prefix.now key
    = ap (λ p. begins_with (kind_of kind) p key) (has.prefix ∙ are.prefix) ∙ prefix_folded (kind_of kind) c.prefix.now key in
    let inside = in_folded kind c d key (has.from ∙ are.from) (has.to ∙ are.to) in
    rw (begins, inside, has.without) refl

pub chosen_folded : (kind : TrieKind) (c : Choice) (words : FoldedWords) (d : Choice) → AreWordsOf kind c words → HasWords words c d → (key : List ℕ) → is_chosen kind d key ≡ is_chosen kind c key
chosen_folded kind c words d are has key =
    ap (λ b. b && is_matched kind d.sought key) (kept_folded kind c words d are has key)
    ∙ ap (λ b. is_kept kind c key && b) (matched_folded kind c.sought d.sought words.word.items key are.word has.by has.word has.begins)

pub measured_folded : (kind : TrieKind) (c : Choice) (words : FoldedWords) (d : Choice) → AreWordsOf kind c words → HasWords words c d → (key : List ℕ) → measured kind d key ≡ measured kind c key
measured_folded kind c words d are has key =
    ap (λ b. if b then edits_matched kind d.sought key else None) (kept_folded kind c words d are has key)
    ∙ ap (λ o. if is_kept kind c key then o else None) (edits_folded kind c.sought d.sought words.word.items key are.word has.by has.word has.begins)

-- and allows as many edits, so that lines say the same edits
pub edits_alike : (o p : Option Sought) → option_map (λ s. s.by) p ≡ option_map (λ s. s.by) o → unwrap_or (option_map (λ s. most_by s.by) p) 0 ≡ unwrap_or (option_map (λ s. most_by s.by) o) 0
edits_alike None None h = refl
edits_alike None (Some t) h = absurd (cc)
edits_alike (Some s) None h = absurd (cc)
edits_alike (Some s) (Some t) h = ap most_by (some_inj h)

pub told_folded : (kind : TrieKind) (c : Choice) (words : FoldedWords) (d : Choice) → AreWordsOf kind c words → HasWords words c d → (key : List ℕ) → told_edits kind d key ≡ told_edits kind c key
told_folded kind c words d are has key =
    ap (λ n. unwrap_or (measured_up_to n (edits_matched kind d.sought key)) 0) (edits_alike c.sought d.sought has.by)
    ∙ ap (λ o. unwrap_or (measured_up_to (edits_of c) o) 0) (edits_folded kind c.sought d.sought words.word.items key are.word has.by has.word has.begins)

-- other edits leave words as they are
words_at : (kind : TrieKind) (e : ℕ) (o : Option Sought) → word_of kind (option_map (sought_at e) o) ≡ word_of kind o
words_at kind e None = refl
words_at kind e (Some s) = word_edited kind e s.by s.word.now

pub are_at : (kind : TrieKind) (e : ℕ) (c : Choice) (words : FoldedWords) → AreWordsOf kind c words → AreWordsOf kind (at_edits e c) words
are_at kind e c words h = record {
  prefix = h.prefix;
  from = h.from;
  to = h.to;
  word = h.word ∙ sym (words_at kind e c.sought);
  above = h.above;
}

has_by : (e : ℕ) (o p : Option Sought) → option_map (λ s. s.by) p ≡ option_map (λ s. s.by) o
    → option_map (λ s. s.by) (option_map (sought_at e) p) ≡ option_map (λ s. s.by) (option_map (sought_at e) o)
has_by e None None h = refl
has_by e None (Some t) h = absurd (cc)
has_by e (Some s) None h = absurd (cc)
has_by e (Some s) (Some t) h = ap (λ b. Some (by_edits e b)) (some_inj h)

has_word : (e : ℕ) (word : List ℕ) (o p : Option Sought) → option_map (λ s. s.word.now) p ≡ option_map (λ _. word) o
    → option_map (λ s. s.word.now) (option_map (sought_at e) p) ≡ option_map (λ _. word) (option_map (sought_at e) o)
has_word e word None None h = refl
has_word e word None (Some t) h = absurd (cc)
has_word e word (Some s) None h = absurd (cc)
has_word e word (Some s) (Some t) h = h

has_begins : (e : ℕ) (o p : Option Sought) → option_map (λ s. s.begins) p ≡ option_map (λ s. s.begins) o → option_map (λ s. s.begins) (option_map (sought_at e) p) ≡ option_map (λ s. s.begins) (option_map (sought_at e) o)
has_begins e None None h = refl
has_begins e None (Some t) h = absurd (cc)
has_begins e (Some s) None h = absurd (cc)
has_begins e (Some s) (Some t) h = h

has_at : (e : ℕ) (c : Choice) (words : FoldedWords) (d : Choice) → HasWords words c d → HasWords words (at_edits e c) (at_edits e d)
has_at e c words d h = record {
  prefix = h.prefix;
  from = h.from;
  to = h.to;
  without = h.without;
  by = has_by e c.sought d.sought h.by;
  word = has_word e words.word.items c.sought d.sought h.word;
  begins = has_begins e c.sought d.sought h.begins;
}

-- so do the fewest edits
closest_alike : (kind : TrieKind) (c d : Choice) (pairs : Pairs) → ((e : ℕ) → chosen kind (at_edits e d) pairs ≡ chosen kind (at_edits e c) pairs) → (e n : ℕ) → closest kind d pairs e n ≡ closest kind c pairs e n
closest_alike kind c d pairs h e zero = h e
closest_alike kind c d pairs h e (suc n) = rw (h e, closest_alike kind c d pairs h (suc e) n) refl

-- it has a word if the other has, and bounds if the other has
some_as : {A B : Type 0} (f : A → B) (o p : Option A) → option_map f o ≡ option_map f p → is_some o ≡ is_some p
some_as f None None h = refl
some_as f None (Some x) h = absurd (cc)
some_as f (Some x) None h = absurd (cc)
some_as f (Some x) (Some y) h = refl

free_as : (kind : Kind) (a b : Bound (Bor (List ℕ))) → bound_map (λ b. b.now) a ≡ bound_map (folded_key kind) (bound_map (λ b. b.now) b) → is_free a ≡ is_free b
free_as kind Unbounded Unbounded h = refl
free_as kind (Included x) (Included y) h = refl
free_as kind (Excluded x) (Excluded y) h = refl
free_as kind (Included x) (Excluded y) h = refl
free_as kind (Excluded x) (Included y) h = refl
free_as kind Unbounded (Included y) h = absurd (cc)
free_as kind Unbounded (Excluded y) h = absurd (cc)
free_as kind (Included x) Unbounded h = absurd (cc)
free_as kind (Excluded x) Unbounded h = absurd (cc)

module _ (kind : TrieKind) (c : Choice) (words : FoldedWords) (d : Choice) (are : AreWordsOf kind c words) (has : HasWords words c d) where
  chosen_as : (pairs : Pairs) → chosen kind d pairs ≡ chosen kind c pairs
  chosen_as pairs = accepted_alike (is_chosen kind d) (is_chosen kind c) (chosen_folded kind c words d are has) pairs

  alone_as : is_prefix_alone d ≡ is_prefix_alone c
  alone_as = rw (
    some_as (λ s. s.begins) d.sought c.sought has.begins,
    has.without,
    free_as (kind_of kind) d.range.from c.range.from (has.from ∙ are.from),
    free_as (kind_of kind) d.range.to c.range.to (has.to ∙ are.to),
  ) refl

  pub picked_folded : (order : Order) (pairs : Pairs) → picked order kind d pairs ≡ picked order kind c pairs
  picked_folded Stored pairs = ap (λ b. if b then chosen kind d pairs else chosen kind d (entries (map_of pairs))) alone_as ∙ go (is_prefix_alone c)
    where
      go : (b : Bool) → (if b then chosen kind d pairs else chosen kind d (entries (map_of pairs))) ≡ (if b then chosen kind c pairs else chosen kind c (entries (map_of pairs)))
      go true = chosen_as pairs
      go false = chosen_as (entries (map_of pairs))
  picked_folded ByBytes pairs = chosen_as (entries (map_of pairs))
  picked_folded Closest pairs =
      let each : (e : ℕ) → chosen kind (at_edits e d) (entries (map_of pairs)) ≡ chosen kind (at_edits e c) (entries (map_of pairs)) = λ e. accepted_alike (is_chosen kind (at_edits e d)) (is_chosen kind (at_edits e c)) (chosen_folded kind (at_edits e c) words (at_edits e d) (are_at kind e c words are) (has_at e c words d has)) (entries (map_of pairs)) in
      ap (λ n. closest kind d (entries (map_of pairs)) 0 n) (edits_alike c.sought d.sought has.by)
      ∙ closest_alike kind c d (entries (map_of pairs)) each 0 (edits_of c)
  picked_folded Nearest pairs =
      ap (λ n. nearest (measured kind d) (entries (map_of pairs)) 0 (suc n)) (edits_alike c.sought d.sought has.by)
      ∙ nearest_alike (measured kind d) (measured kind c) (measured_folded kind c words d are has) (entries (map_of pairs)) 0 (suc (edits_of c))

-- other edits leave a choice folded
folded_at_word : (kind : TrieKind) (e : ℕ) (o : Option Sought) → option_map (λ s. word_by (kind_of kind) s.by s.word.now) o ≡ option_map (λ s. s.word.now) o
    → option_map (λ s. word_by (kind_of kind) s.by s.word.now) (option_map (sought_at e) o) ≡ option_map (λ s. s.word.now) (option_map (sought_at e) o)
folded_at_word kind e None h = refl
folded_at_word kind e (Some s) h = ap (λ w. Some w) (word_edited kind e s.by s.word.now) ∙ h

pub folded_at : (kind : TrieKind) (e : ℕ) (c : Choice) → IsFolded kind c → IsFolded kind (at_edits e c)
folded_at kind e c h = record { from = h.from; to = h.to; word = folded_at_word kind e c.sought h.word }

-- in a choice that is folded a range has the keys whose folds are between its bounds
pub in_range : (kind : TrieKind) (c : Choice) → IsFolded kind c → (key : List ℕ) → bounds_contain by_bytes (bound_map (λ b. b.now) c.range.from) (bound_map (λ b. b.now) c.range.to) (folded_key (kind_of kind) key) ≡ is_in kind c.range key
in_range kind c h key = rw (h.from, h.to) refl

-- and its word stays as it is
pub same_word : (kind : TrieKind) (c : Choice) (s : Sought) → IsFolded kind c → c.sought ≡ Some s → word_by (kind_of kind) s.by s.word.now ≡ s.word.now
same_word kind c s h is = some_inj (subst (λ o. option_map (λ t. word_by (kind_of kind) t.by t.word.now) o ≡ option_map (λ t. t.word.now) o) is h.word)

-- a front of the fold of a key is the fold of a front
front_folded : (kind : TrieKind) (finds : List ℕ → Bool) (key : List ℕ) → some_front finds (folded_key (kind_of kind) key) ≡ some_front (λ k. finds (folded_key (kind_of kind) k)) key
front_folded kind finds [] = refl
front_folded kind finds (b ∷ key) = ap (λ x. finds [] || x) (front_folded kind (λ rest. finds (fold_byte (kind_of kind) b ∷ rest)) key)

from_folded : (kind : TrieKind) (begins : Bool) (finds : List ℕ → Bool) (key : List ℕ) → found_from begins finds (folded_key (kind_of kind) key) ≡ found_from begins (λ k. finds (folded_key (kind_of kind) k)) key
from_folded kind true finds key = front_folded kind finds key
from_folded kind false finds key = refl

-- and a word finds the keys whose folds it finds
pub found_folded : (kind : TrieKind) (c : Choice) (s : Sought) (accepts : List ℕ → Bool) → IsFolded kind c → c.sought ≡ Some s → is_word s.by s.word.now ≡ true → accepts ≡ finds_in (ignores_case (kind_of kind)) s.by s.word.now
    → (key : List ℕ) → found_from s.begins accepts (folded_key (kind_of kind) key) ≡ is_matched kind c.sought key
found_folded kind c s accepts h is word finds key =
    let same = same_word kind c s h is in
    let told : true ≡ is_word s.by (word_by (kind_of kind) s.by s.word.now) = sym (ap (is_word s.by) same ∙ word) in
    from_folded kind s.begins accepts key
    ∙ ap (λ f. found_from s.begins (λ k. f (folded_key (kind_of kind) k)) key) finds
    ∙ ap (λ w. found_from s.begins (λ k. finds_in (ignores_case (kind_of kind)) s.by w (folded_key (kind_of kind) k)) key) (sym same)
    ∙ ap (λ b. b && found_from s.begins (finds_by (kind_of kind) s.by s.word.now) key) told
    ∙ ap (λ o. is_matched kind o key) (sym is)

-- no key is between the first key and itself
none_between : (key : List ℕ) → bounds_contain by_bytes (Excluded []) (Excluded []) key ≡ false
none_between [] = refl
none_between (b ∷ key) = refl

-- a word that is none of its sort finds none
pub none_found : (kind : TrieKind) (c : Choice) (s : Sought) (begins : Bool) → IsFolded kind c → c.sought ≡ Some s → is_word s.by s.word.now ≡ false
    → (key : List ℕ) → found_from begins (bounds_contain by_bytes (Excluded []) (Excluded [])) (folded_key (kind_of kind) key) ≡ is_matched kind c.sought key
none_found kind c s begins h is word key =
    let none : false ≡ is_matched kind c.sought key = rw (is, same_word kind c s h is, word) refl in
    none_from begins (bounds_contain by_bytes (Excluded []) (Excluded [])) none_between (folded_key (kind_of kind) key) ∙ none

-- the fewest edits are these, if they choose a pair
pub closest_here : (kind : TrieKind) (c : Choice) (pairs : Pairs) (e n : ℕ) → e < n → (length (chosen kind (at_edits e c) pairs) == 0) ≡ false → closest kind c pairs e (n - e) ≡ chosen kind (at_edits e c) pairs
closest_here kind c pairs e n less some =
    let more : n - e ≡ suc (n - (e + 1)) = omega (arith, less) in
    subst (λ k. closest kind c pairs e k ≡ chosen kind (at_edits e c) pairs) (sym more) (rw some refl)

-- and more, if they choose none
pub closest_beyond : (kind : TrieKind) (c : Choice) (pairs : Pairs) (e n : ℕ) → e < n → (length (chosen kind (at_edits e c) pairs) == 0) ≡ true → closest kind c pairs e (n - e) ≡ closest kind c pairs (e + 1) (n - (e + 1))
closest_beyond kind c pairs e n less none =
    let more : n - e ≡ suc (n - (e + 1)) = omega (arith, less) in
    let next : suc e ≡ e + 1 = omega arith in
    subst (λ k. closest kind c pairs e k ≡ closest kind c pairs (e + 1) (n - (e + 1))) (sym more) (rw none (ap (λ d. closest kind c pairs d (n - (e + 1))) next))

-- what is picked of the fewest edits is what is picked with these
pub closest_is : (kind : TrieKind) (c d : Choice) (e : ℕ) (bytes : List ℕ) → length bytes < 2 ^ 64 → d ≡ at_edits e c
    → ((m : Map) → Means (kind_of kind) bytes m → closest kind c (entries m) 0 (edits_of c) ≡ chosen kind (at_edits e c) (entries m))
    → (pairs : Pairs) → Lists (kind_of kind) bytes pairs → picked ByBytes kind d pairs ≡ picked Closest kind c pairs
closest_is kind c d e bytes short is fewest pairs lists =
    ap (λ x. chosen kind x (entries (map_of pairs))) is
    ∙ sym (fewest (map_of pairs) (record { short = short; pairs = pairs; lists = lists; is = refl }))
