-- The keys that a text begins with, printed one after another.
use Rattle.std.proofs.Common.{◌≡◌, ℕ, suc, ◌+◌, List, [], ◌∷◌, ◌++◌, length, Option, Some, None, Bool, true, false, cond, refl, sym, ◌∙◌, ap, subst, append_assoc, append-nil, arith}
use Rattle.std.specs.Prelude.{◌||◌, nat_lt, codes}
use Rattle.std.proofs.lemmas.Bool.{lt-ltb}
use Rattle.std.specs.Option.{option_map, option_to_list}
use Rattle.zerotrie_core.specs.Kind.{Kind}
use Rattle.zerotrie_core.specs.Kinds.{kind_of}
use Rattle.zerotrie_core.specs.declared.TrieKind.{TrieKind}
use Rattle.zerotrie_core.specs.Maps.{Pairs, Map, look, value_at}
use Rattle.zerotrie_core.specs.Texts.{Lists, Means}
use Rattle.zerotrie_base.proofs.CallerLemmas.{look-map_of}
use Rattle.zerotrie_core.specs.Prefixes.{Along, Leaves, at_front, fronts, fronts_left, common_prefixes, NextFront}
use Rattle.zerotrie_queries.specs.Printed.{front_line, front_lines, fronts_text}
use Rattle.zerotrie_queries.specs.Answers.{AddsAnswer, AddsFronts, as_is, ends_at, fronts_at}
use Rattle.zerotrie_queries.specs.Finders.{dictionary_of}
use Rattle.zerotrie_queries.specs.declared.question.Asked.TheVariants.{Prefixes}

or_false : (b : Bool) → (b || false) ≡ b
or_false true = refl
or_false false = refl

or_true : (b : Bool) → (b || true) ≡ true
or_true true = refl
or_true false = refl

some_key : (f : ℕ × ℕ) (keys : List (ℕ × ℕ)) → nat_lt 0 (length (f ∷ keys)) ≡ true
some_key f keys = lt-ltb 0 (suc (length keys)) (omega arith)

-- what was printed of the keys, and whether one was, belong to those to come and to all
abbrev pub Prints : (border : Option ℕ) → (text lines first : List ℕ) → (found : Bool) → (before now : Along) → Type 0
Prints border text lines first found before now = (pairs : Pairs) → Leaves before pairs → (left : Pairs) × Leaves now left
    × (lines ++ front_lines text (fronts_at border text (fronts_left now left)) ≡ first ++ front_lines text (fronts_at border text (fronts_left before pairs)))
    × ((found || nat_lt 0 (length (fronts_at border text (fronts_left now left)))) ≡ nat_lt 0 (length (fronts_at border text (fronts_left before pairs))))

-- none yet
pub prints_none : (border : Option ℕ) (text lines : List ℕ) (before : Along) → Prints border text lines lines false before before
prints_none border text lines before pairs leaves = (pairs, leaves, refl, refl)

-- one key more, that counts
pub prints_next : (border : Option ℕ) (text lines added first : List ℕ) (found : Bool) (f : ℕ × ℕ) (before now next : Along) → Prints border text lines first found before now → NextFront now (Some f) next
    → ends_at border text f.0 ≡ true → added ≡ lines ++ front_line text f → Prints border text added first true before next
prints_next border text lines added first found f before now next h moves ends is pairs leaves =
    let x = h pairs leaves in
    let y = moves.2 x.0 x.1 in
    let left = fronts_at border text (fronts_left next y.0) in
    let keys : fronts_at border text (fronts_left now x.0) ≡ f ∷ left = ap (fronts_at border text) y.2 ∙ ap (λ b. cond b (f ∷ left) left) ends in (
      y.0,
      y.1,
      ap (λ l. l ++ front_lines text left) is ∙ append_assoc lines (front_line text f) (front_lines text left) ∙ ap (λ k. lines ++ front_lines text k) (sym keys) ∙ x.2,
      sym (or_true found) ∙ ap (λ b. found || b) (sym (some_key f left)) ∙ ap (λ k. found || nat_lt 0 (length k)) (sym keys) ∙ x.3,
    )

-- one that does not
pub prints_same : (border : Option ℕ) (text lines first : List ℕ) (found : Bool) (f : ℕ × ℕ) (before now next : Along) → Prints border text lines first found before now → NextFront now (Some f) next
    → ends_at border text f.0 ≡ false → Prints border text lines first found before next
prints_same border text lines first found f before now next h moves ends pairs leaves =
    let x = h pairs leaves in
    let y = moves.2 x.0 x.1 in
    let left = fronts_at border text (fronts_left next y.0) in
    let keys : fronts_at border text (fronts_left now x.0) ≡ left = ap (fronts_at border text) y.2 ∙ ap (λ b. cond b (f ∷ left) left) ends in
    (y.0, y.1, ap (λ k. lines ++ front_lines text k) (sym keys) ∙ x.2, ap (λ k. found || nat_lt 0 (length k)) (sym keys) ∙ x.3)

-- no key is left
pub prints_all : (border : Option ℕ) (text lines first : List ℕ) (found : Bool) (r : Option (ℕ × ℕ)) (before now after : Along) → Prints border text lines first found before now → r ≡ None → NextFront now r after
    → (pairs : Pairs) → Leaves before pairs → AddsFronts border text first lines (fronts_left before pairs) found
prints_all border text lines first found (Some f) before now after h is next pairs leaves = absurd (cc)
prints_all border text lines first found None before now after h is none pairs leaves =
    let x = h pairs leaves in
    let over = (none x.0 x.1).0 in
    let keys = ap (fronts_at border text) over in (
      sym (append-nil lines) ∙ ap (λ k. lines ++ front_lines text k) (sym keys) ∙ x.2,
      sym (or_false found) ∙ ap (λ k. found || nat_lt 0 (length k)) (sym keys) ∙ x.3,
    )

-- what is asked may be told in other words
fronts_same : (f g : List ℕ → Option ℕ) (len : ℕ) (text : List ℕ) → ((key : List ℕ) → f key ≡ g key) → fronts f len text ≡ fronts g len text
fronts_same f g len [] same = ap (λ o. option_to_list (option_map (λ v. (len, v)) o)) (same [])
fronts_same f g len (c ∷ text) same =
    ap (λ o. option_to_list (option_map (λ v. (len, v)) o) ++ fronts (λ key. f (c ∷ key)) (len + 1) text) (same [])
    ∙ ap (λ more. option_to_list (option_map (λ v. (len, v)) (g [])) ++ more) (fronts_same (λ key. f (c ∷ key)) (λ key. g (c ∷ key)) (len + 1) text (λ key. same (c ∷ key)))

-- what was added of the keys to come at the front of a text belongs to those that the text begins with
abbrev pub AddsAll : (border : Option ℕ) → (text old new : List ℕ) → (found : Bool) → (before : Along) → Type 0
AddsAll border text old new found before = (pairs : Pairs) → Leaves before pairs → AddsFronts border text old new (fronts_left before pairs) found

adds_fronts : (border : Option ℕ) (kind : Kind) (bytes text old new : List ℕ) (found : Bool) (before : Along) (m : Map) → before ≡ at_front kind bytes text → AddsAll border text old new found before → Means kind bytes m
    → AddsFronts border text old new (common_prefixes kind m text) found
adds_fronts border kind bytes text old new found before m is h means =
    let at = subst (AddsAll border text old new found) is h means.pairs (means.lists, λ no. absurd (cc)) in
    let same : fronts_left (at_front kind bytes text) means.pairs ≡ common_prefixes kind m text =
    fronts_same (value_at kind means.pairs) (look kind m) 0 text (λ key. sym (ap (λ n. look kind n key) means.is ∙ look-map_of means.lists key)) in
    subst (λ keys. AddsFronts border text old new keys found) same at

text_none : (text : List ℕ) (keys : List (ℕ × ℕ)) → false ≡ nat_lt 0 (length keys) → (front_lines text keys ≡ []) × (codes "none\n" ≡ fronts_text text keys)
text_none text [] is = (refl, refl)
text_none text (r ∷ keys) is = absurd (let more = some_key r keys in cc)

text_some : (text : List ℕ) (keys : List (ℕ × ℕ)) → true ≡ nat_lt 0 (length keys) → front_lines text keys ≡ fronts_text text keys
text_some text [] is = absurd (cc)
text_some text (r ∷ keys) is = refl

-- no key is told as none
pub added_none : (border : Option ℕ) (kind : TrieKind) (bytes text old lines new : List ℕ) (before : Along) → before ≡ at_front (kind_of kind) bytes text → AddsAll border text old lines false before → new ≡ lines ++ codes "none\n"
    → (m : Map) (pairs : Pairs) → Means (kind_of kind) bytes m → Lists (kind_of kind) bytes pairs → AddsAnswer (as_is (Prefixes border)) (dictionary_of (look (kind_of kind) m) pairs) text old new false
added_none border kind bytes text old lines new before is h added m pairs means lists =
    let keys = adds_fronts border (kind_of kind) bytes text old lines false before m is h means in
    let none = text_none text (fronts_at border text (common_prefixes (kind_of kind) m text)) keys.1 in
    (codes "none\n", (none.1, keys.1), added ∙ ap (λ l. l ++ codes "none\n") (keys.0 ∙ ap (λ l. old ++ l) none.0 ∙ append-nil old))

-- and some by their lines
pub added_some : (border : Option ℕ) (kind : TrieKind) (bytes text old new : List ℕ) (before : Along) → before ≡ at_front (kind_of kind) bytes text → AddsAll border text old new true before
    → (m : Map) (pairs : Pairs) → Means (kind_of kind) bytes m → Lists (kind_of kind) bytes pairs → AddsAnswer (as_is (Prefixes border)) (dictionary_of (look (kind_of kind) m) pairs) text old new true
added_some border kind bytes text old new before is h m pairs means lists =
    let found = fronts_at border text (common_prefixes (kind_of kind) m text) in
    let keys = adds_fronts border (kind_of kind) bytes text old new true before m is h means in
    (front_lines text found, (text_some text found keys.1, keys.1), keys.0)
