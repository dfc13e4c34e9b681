-- Combinations of any number of tries.
use Rattle.std.proofs.Common.{◌≡◌, ℕ, zero, suc, ◌+◌, ◌<◌, ◌≤◌, List, [], ◌∷◌, ◌++◌, map, length, take, drop, get_or, Bool, true, false, eqb, ◌≢◌, Option, Some, None, inl, inr, refl, sym, ap, subst, ◌∙◌, cond, arith, append-nil, append_assoc}
use Rattle.std.specs.Prelude.{is_some, if◌then◌else◌, ◌&&◌, ◌==◌, IfSome, IfErr, Result, Ok, Err}
use Rattle.std.specs.List.{AllZip, list_all, list_any, slice_get}
use Rattle.std.specs.Result.{IsErrAnd}
use Rattle.std.specs.FinMap.{entries}
use Rattle.std.specs.Ordering.{nat_cmp, is_eq, ordering_reverse}
use Rattle.std.specs.declared.cmp.Ordering.TheVariants.{Less}
use Rattle.std.specs.Cmp.{tied_itself}
use Rattle.std.specs.Cmp.Lexicographic.{slice_cmp, nat_list_cmp_total}
use Rattle.std.proofs.Math.Seq.{take-suc, drop-cons}
use Rattle.std.proofs.lemmas.Bool.{eqb-true}
use Rattle.std.proofs.lemmas.Slice.Zip.{all_zipped_more}
use Rattle.zerotrie_core.specs.Kind.{Kind, flags, tag}
use Rattle.zerotrie_core.specs.Kinds.{kind_of}
use Rattle.zerotrie_core.specs.Maps.{Map, Pairs, Ascends}
use Rattle.zerotrie_core.specs.Listings.{Left, to_come}
use Rattle.zerotrie_core.specs.Texts.{Means}
use Rattle.zerotrie_core.specs.WellFormed.{IsWellFormed}
use Rattle.zerotrie_core.specs.declared.TrieKind.{TrieKind}
use Rattle.zerotrie_core.specs.declared.TrieRef.{TrieRef}
use Rattle.zerotrie_queries.specs.Recased.{recased}
use Rattle.zerotrie_sets.specs.Merges.{Entries, value_of, FirstKeyAbove, KeysAscend}
use Rattle.zerotrie_sets.specs.Rows.{Values, values_of, EachAscends, IsMergeAll}
use Rattle.zerotrie_sets.specs.Streams.{Stand}
use Rattle.zerotrie_sets.specs.Selections.{IsRuleError, SomeRowErrs}
use Rattle.zerotrie_sets.specs.declared.selection.Selection.{Selection}
use Rattle.zerotrie_sets.specs.declared.selection.Rule.{Rule}
use Rattle.zerotrie_sets.specs.declared.selection.RuleError.{RuleError}
use Rattle.zerotrie_making.specs.declared.plan.Combination.{Combination}
use Rattle.zerotrie_making.specs.declared.error.CombinationError.{CombinationError}
use Rattle.zerotrie_making.specs.declared.error.CombinationError.TheVariants.{NoValue, NotMade}
use Rattle.zerotrie_making.specs.Combinations.{IsNotAdded, IsNotTaken, ExplainsMaps, kind_kept, Meant, IsMeant, OfMeant, all_ignore, in_case_of, in_first_case, listed}

-- ---- the rows of a merge

-- each row has what the lists have for its key
abbrev pub AreOf : List Pairs → Entries Values → Type 0
AreOf lists [] = Unit {0}
AreOf lists (row ∷ rows) = (row.1 ≡ map (value_of row.0) lists) × AreOf lists rows

-- each key is above this one
abbrev AllAbove : List ℕ → Entries Values → Type 0
AllAbove key [] = Unit {0}
AllAbove key (row ∷ rows) = (slice_cmp nat_cmp key row.0 ≡ Less) × AllAbove key rows

-- each of the rows is found by its key in all rows
abbrev AreFound : Entries Values → Entries Values → Type 0
AreFound all [] = Unit {0}
AreFound all (row ∷ rows) = (value_of row.0 all ≡ Some row.1) × AreFound all rows

first_above : (k l : List ℕ) (rows : Entries Values) → slice_cmp nat_cmp k l ≡ Less → FirstKeyAbove l rows → FirstKeyAbove k rows
first_above k l [] below above = tt
first_above k l (row ∷ rows) below above = nat_list_cmp_total.trans k l row.0 below above

all_above : (key : List ℕ) (rows : Entries Values) → FirstKeyAbove key rows → KeysAscend rows → AllAbove key rows
all_above key [] above up = tt
all_above key (row ∷ rows) above up = (above, all_above key rows (first_above key row.0 rows above up.0) up.1)

-- the keys after the first one are found as before
found_later : (first : List ℕ × Values) (all rows : Entries Values) → AllAbove first.0 rows → AreFound all rows → AreFound (first ∷ all) rows
found_later first all [] above found = tt
found_later first all (row ∷ rows) above found = (
  ap (λ o. cond (is_eq o) (Some first.1) (value_of row.0 all)) (nat_list_cmp_total.antisymm row.0 first.0 ∙ ap ordering_reverse above.0) ∙ found.0,
  found_later first all rows above.1 found.1,
)

all_found : (rows : Entries Values) → KeysAscend rows → AreFound rows rows
all_found [] up = tt
all_found (row ∷ rows) up = (
  ap (λ o. cond (is_eq o) (Some row.1) (value_of row.0 rows)) (tied_itself nat_list_cmp_total row.0),
  found_later row rows rows (all_above row.0 rows up.0 up.1) (all_found rows up.1),
)

the_values : (b : Bool) (values found : Values) → Some found ≡ (if b then Some values else None) → found ≡ values
the_values true values found is = cc
the_values false values found is = absurd cc

found_of : (lists : List Pairs) (all rows : Entries Values) → ((key : List ℕ) → value_of key all ≡ values_of key lists) → AreFound all rows → AreOf lists rows
found_of lists all [] is found = tt
found_of lists all (row ∷ rows) is found = (
  the_values (list_any is_some (map (value_of row.0) lists)) (map (value_of row.0) lists) row.1 (sym found.0 ∙ is row.0),
  found_of lists all rows is found.1,
)

pub rows_are_of : (lists : List Pairs) (rows : Entries Values) → IsMergeAll lists rows → AreOf lists rows
rows_are_of lists rows m = found_of lists rows rows m.values (all_found rows m.ascends)

-- the errors are those of the rows after one that is none
pub errs_later : (selection : Selection) (rule : Rule) (row : List ℕ × Values) (rows : Entries Values) (e : RuleError) → (IsRuleError selection rule row.1 e → ⊥)
    → SomeRowErrs selection rule (row ∷ rows) e → SomeRowErrs selection rule rows e
errs_later selection rule row rows e allowed errs = elim errs [
  | inl h ↦ absurd (allowed h)
  | inr more ↦ more
]

pub not_taken : (c : Combination) (lists : List Pairs) (row : List ℕ × Values) (e : CombinationError) → row.1 ≡ map (value_of row.0) lists → IsNotAdded c row e → IsNotTaken c lists e
not_taken c lists row (NoValue why key) is h =
    subst (λ k. IsRuleError c.selection c.rule (map (value_of k) lists) why) (sym h.0) (subst (λ values. IsRuleError c.selection c.rule values why) is h.1)
not_taken c lists row (NotMade e) is h = h

-- ---- lists

pub take_end : {A : Type 0} (xs : List A) (n : ℕ) → length xs ≤ n → take n xs ≡ xs
take_end [] zero h = refl
take_end [] (suc n) h = refl
take_end (x ∷ xs) zero h = absurd (omega arith)
take_end (x ∷ xs) (suc n) h = ap (λ ys. x ∷ ys) (take_end xs n (omega arith))

drop_end : {A : Type 0} (xs : List A) (n : ℕ) → length xs ≤ n → drop n xs ≡ []
drop_end [] zero h = refl
drop_end [] (suc n) h = refl
drop_end (x ∷ xs) zero h = absurd (omega arith)
drop_end (x ∷ xs) (suc n) h = drop_end xs n (omega arith)

nothing_between : {A : Type 0} (xs : List A) (n : ℕ) → drop n (take n xs) ≡ []
nothing_between [] zero = refl
nothing_between [] (suc n) = refl
nothing_between (x ∷ xs) zero = refl
nothing_between (x ∷ xs) (suc n) = nothing_between xs n

same_some : {A : Type 0} (x y : A) → Some x ≡ Some y → x ≡ y
same_some x y e = cc

-- the elements from a place on
drop_got : {A : Type 0} (xs : List A) (i : ℕ) (x : A) → slice_get xs i ≡ Some x → drop i xs ≡ x ∷ drop (suc i) xs
drop_got [] i x is = absurd (cc)
drop_got (y ∷ xs) zero x is = ap (λ z. z ∷ xs) (same_some y x is)
drop_got (y ∷ xs) (suc i) x is = drop_got xs i x is

-- those up to it
take_got : {A : Type 0} (xs : List A) (i : ℕ) (x : A) → slice_get xs i ≡ Some x → take (suc i) xs ≡ take i xs ++ x ∷ []
take_got [] i x is = absurd (cc)
take_got (y ∷ xs) zero x is = ap (λ z. z ∷ []) (same_some y x is)
take_got (y ∷ xs) (suc i) x is = ap (λ zs. y ∷ zs) (take_got xs i x is)

-- those from it on, and before another place
between_got : {A : Type 0} (xs : List A) (i n : ℕ) (x : A) → i < n → slice_get xs i ≡ Some x → drop i (take n xs) ≡ x ∷ drop (suc i) (take n xs)
between_got [] i n x h is = absurd (cc)
between_got (y ∷ xs) i zero x h is = absurd (omega arith)
between_got (y ∷ xs) zero (suc n) x h is = ap (λ z. z ∷ take n xs) (same_some y x is)
between_got (y ∷ xs) (suc i) (suc n) x h is = between_got xs i n x (omega arith) is

-- one element more of those before a place
pub zip_next : {A B : Type 0} (R : A → B → Type 0) (xs : List A) (i : ℕ) (d : A) (ys : List B) (y : B) → i < length xs
    → AllZip R (take i xs) ys → R (get_or xs i d) y → AllZip R (take (i + 1) xs) (ys ++ y ∷ [])
zip_next R xs i d ys y inside a r =
    let e : i + 1 ≡ suc i = omega arith in
    subst (λ zs. AllZip R zs (ys ++ y ∷ [])) (sym (ap (λ n. take n xs) e ∙ take-suc xs i d inside)) (all_zipped_more R (take i xs) ys (get_or xs i d) y a r)

-- a test of all elements from a place on
pub all_next : {A : Type 0} (test : A → Bool) (xs : List A) (i : ℕ) (d : A) → i < length xs → list_all test (drop i xs) ≡ (test (get_or xs i d) && list_all test (drop (i + 1) xs))
all_next test xs i d inside =
    let e : suc i ≡ i + 1 = omega arith in
    ap (list_all test) (drop-cons xs i d inside) ∙ ap (λ n. test (get_or xs i d) && list_all test (drop n xs)) e

and_true : (a b : Bool) → a ≡ true → (a && b) ≡ b
and_true true b h = refl
and_true false b h = absurd (cc)

and_false : (a b : Bool) → a ≡ false → (a && b) ≡ false
and_false true b h = absurd (cc)
and_false false b h = refl

pub all_failed : {A : Type 0} (test : A → Bool) (xs : List A) (i : ℕ) (d : A) (all : Bool) → i < length xs → test (get_or xs i d) ≡ false → list_all test (drop i xs) ≡ all → false ≡ all
all_failed test xs i d all inside fails is = sym (all_next test xs i d inside ∙ and_false (test (get_or xs i d)) (list_all test (drop (i + 1) xs)) fails) ∙ is

-- it is passed, if nothing is left
pub all_at_end : {A : Type 0} (test : A → Bool) (xs : List A) (i : ℕ) (all : Bool) → length xs ≤ i → list_all test (drop i xs) ≡ all → true ≡ all
all_at_end test xs i all end is = sym (ap (list_all test) (drop_end xs i end)) ∙ is

-- ---- lists of pairs

pub ascend_more : (lists : List Pairs) (pairs : Pairs) → EachAscends lists → Ascends pairs → EachAscends (lists ++ pairs ∷ [])
ascend_more [] pairs all one = (one, tt)
ascend_more (first ∷ lists) pairs all one = (all.0, ascend_more lists pairs all.1 one)

pub ascends_at : {A : Type 0} (xs : List A) (f : A → Pairs) (i : ℕ) (d : A) → i < length xs → EachAscends (map f xs) → Ascends (f (get_or xs i d))
ascends_at [] f i d inside up = absurd (omega arith)
ascends_at (x ∷ xs) f zero d inside up = up.0
ascends_at (x ∷ xs) f (suc i) d inside up = ascends_at xs f i d (omega arith) up.1

-- the pairs that are left of a trie ascend
pub left_ascends : (kind : Kind) (bytes : List ℕ) (left : Left) → IsWellFormed kind bytes → ((m : Map) → Means kind bytes m → (left ≡ to_come (entries m)) × Ascends left.pairs) → Ascends left.pairs
left_ascends kind bytes left well is = (is well.0 well.1).1

-- what is left of streams
abbrev pub lefts : List Stand → List Pairs
lefts streams = map {B = Pairs} (λ s. s.left.pairs) streams

pub lefts_more : (streams : List Stand) (s : Stand) → lefts (streams ++ s ∷ []) ≡ lefts streams ++ s.left.pairs ∷ []
lefts_more [] s = refl
lefts_more (first ∷ streams) s = ap (λ ps. first.left.pairs ∷ ps) (lefts_more streams s)

-- ---- what tries mean

-- the pairs are those of the map that the trie means
abbrev pub Listed : TrieRef → Pairs → Type 0
Listed trie pairs = (m : Map) → Means (kind_of trie.kind) trie.bytes.now m → pairs ≡ entries m

means_of : (t : TrieRef) (m : Meant) → IsMeant t m → Means (kind_of t.kind) t.bytes.now m.1
means_of t m is = subst (λ k. Means (kind_of k) t.bytes.now m.1) (sym is.0) is.1

pub listed_meant : (tries : List TrieRef) (lists : List Pairs) → AllZip Listed tries lists → OfMeant tries (λ maps. lists ≡ map (λ m. entries m.1) maps)
listed_meant [] [] l [] meant = refl
listed_meant [] [] l (m ∷ maps) meant = absurd meant
listed_meant [] (x ∷ lists) l maps meant = absurd l
listed_meant (t ∷ tries) [] l maps meant = absurd l
listed_meant (t ∷ tries) (x ∷ lists) l [] meant = absurd meant
listed_meant (t ∷ tries) (x ∷ lists) l (m ∷ maps) meant =
    ap (λ a. a ∷ lists) (l.0 m.1 (means_of t m meant.0)) ∙ ap (λ xs. entries m.1 ∷ xs) (listed_meant tries lists l.1 maps meant.1)

pub kinds_meant : (tries : List TrieRef) (maps : List Meant) → AllZip IsMeant tries maps → map (λ t. t.kind) tries ≡ map (λ m. m.0) maps
kinds_meant [] [] meant = refl
kinds_meant [] (m ∷ maps) meant = absurd meant
kinds_meant (t ∷ tries) [] meant = absurd meant
kinds_meant (t ∷ tries) (m ∷ maps) meant = ap (λ k. k ∷ map (λ t. t.kind) tries) meant.0.0 ∙ ap (λ ks. m.0 ∷ ks) (kinds_meant tries maps meant.1)

pub all_ignore_meant : (tries : List TrieRef) (maps : List Meant) → AllZip IsMeant tries maps → list_all (λ t. (flags (kind_of t.kind)).ignore_case) tries ≡ all_ignore maps
all_ignore_meant [] [] meant = refl
all_ignore_meant [] (m ∷ maps) meant = absurd meant
all_ignore_meant (t ∷ tries) [] meant = absurd meant
all_ignore_meant (t ∷ tries) (m ∷ maps) meant =
    ap (λ k. (flags (kind_of k)).ignore_case && list_all (λ t. (flags (kind_of t.kind)).ignore_case) tries) meant.0.0
    ∙ ap (λ b. (flags (kind_of m.0)).ignore_case && b) (all_ignore_meant tries maps meant.1)

pub listed_in_case : (maps : List Meant) → all_ignore maps ≡ true → in_first_case [] maps ≡ listed maps
listed_in_case maps all = sym (ap (λ b. if b then in_first_case [] maps else map (λ m. entries m.1) maps) all)

pub listed_as_is : (maps : List Meant) → all_ignore maps ≡ false → map (λ m. entries m.1) maps ≡ listed maps
listed_as_is maps some = sym (ap (λ b. if b then in_first_case [] maps else map (λ m. entries m.1) maps) some)

meant_at : (tries : List TrieRef) (maps : List Meant) (at : ℕ) (d : TrieRef) → at < length tries → AllZip IsMeant tries maps → (m : Meant) × (slice_get maps at ≡ Some m) × IsMeant (get_or tries at d) m
meant_at [] maps at d inside meant = absurd (omega arith)
meant_at (t ∷ tries) [] at d inside meant = absurd meant
meant_at (t ∷ tries) (m ∷ maps) zero d inside meant = (m, refl, meant.0)
meant_at (t ∷ tries) (m ∷ maps) (suc at) d inside meant = meant_at tries maps at d (omega arith) meant.1

meant_length : (tries : List TrieRef) (maps : List Meant) → AllZip IsMeant tries maps → length maps ≡ length tries
meant_length [] [] meant = refl
meant_length [] (m ∷ maps) meant = absurd meant
meant_length (t ∷ tries) [] meant = absurd meant
meant_length (t ∷ tries) (m ∷ maps) meant = ap suc (meant_length tries maps meant.1)

-- ---- keys in the case of the first trie that has them

-- the pairs of the trie at this place, in the case of those before it from another place on
abbrev pub IsInCase : List TrieRef → ℕ → ℕ → Pairs → Type 0
IsInCase tries before at pairs = OfMeant tries (λ maps. IfSome (slice_get maps at) (λ m. pairs ≡ in_case_of (drop before (take at maps)) m))

-- of those before it none is looked at yet
pub in_case_first : (tries : List TrieRef) (at : ℕ) (d : TrieRef) (pairs : Pairs) → at < length tries → Listed (get_or tries at d) pairs → IsInCase tries at at pairs
in_case_first tries at d pairs inside is maps meant =
    let here = meant_at tries maps at d inside meant in
    let m = here.0 in
    subst (λ o. IfSome o (λ m. pairs ≡ in_case_of (drop at (take at maps)) m)) (sym here.1)
    (is m.1 (means_of (get_or tries at d) m here.2) ∙ ap (λ ms. in_case_of ms m) (sym (nothing_between maps at)))

-- one more is
pub in_case_next : (tries : List TrieRef) (before after at : ℕ) (d e : TrieRef) (pairs more : Pairs) → at < length tries → before + 1 ≡ after → after ≤ at
    → ((m n : Map) → Means (kind_of (get_or tries before d).kind) (get_or tries before d).bytes.now m → Means (kind_of (get_or tries at e).kind) (get_or tries at e).bytes.now n
    → more ≡ recased (kind_of (get_or tries before d).kind) (kind_of (get_or tries at e).kind) m n pairs)
    → IsInCase tries after at pairs → IsInCase tries before at more
in_case_next tries before after at d e pairs more inside next upto is so maps meant =
    let here = meant_at tries maps at e inside meant in
    let m = here.0 in
    let one = meant_at tries maps before d (omega arith) meant in
    let first = one.0 in
    let s : suc before ≡ after = omega arith in
    let later = drop after (take at maps) in
    let old : pairs ≡ in_case_of later m = subst (λ o. IfSome o (λ m. pairs ≡ in_case_of later m)) here.1 (so maps meant) in
    subst (λ o. IfSome o (λ m. more ≡ in_case_of (drop before (take at maps)) m)) (sym here.1)
    (is first.1 m.1 (means_of (get_or tries before d) first one.2) (means_of (get_or tries at e) m here.2)
    ∙ ap (λ k. recased (kind_of k) (kind_of (get_or tries at e).kind) first.1 m.1 pairs) one.2.0
    ∙ ap (λ k. recased (kind_of first.0) (kind_of k) first.1 m.1 pairs) here.2.0
    ∙ ap (λ ps. recased (kind_of first.0) (kind_of m.0) first.1 m.1 ps) old
    ∙ sym (ap (λ ms. in_case_of ms m) (between_got maps before at first (omega arith) one.1 ∙ ap (λ n. first ∷ drop n (take at maps)) s)))

-- the pairs of the tries up to a place are in the case of the first trie that has them
abbrev pub AreInCase : List TrieRef → ℕ → List Pairs → Type 0
AreInCase tries at tables = OfMeant tries (λ maps. tables ++ in_first_case (take at maps) (drop at maps) ≡ in_first_case [] maps)

pub cases_next : (tries : List TrieRef) (at : ℕ) (tables : List Pairs) (table : Pairs) → at < length tries → IsInCase tries 0 at table → AreInCase tries at tables → AreInCase tries (at + 1) (tables ++ table ∷ [])
cases_next [] at tables table inside is so maps meant = absurd (omega arith)
cases_next (t ∷ tries) at tables table inside is so maps meant =
    let here = meant_at (t ∷ tries) maps at t inside meant in
    let m = here.0 in
    let now : table ≡ in_case_of (take at maps) m = subst (λ o. IfSome o (λ m. table ≡ in_case_of (take at maps) m)) here.1 (is maps meant) in
    let e : at + 1 ≡ suc at = omega arith in
    append_assoc tables (table ∷ []) (in_first_case (take (at + 1) maps) (drop (at + 1) maps))
    ∙ ap (λ t. tables ++ t ∷ in_first_case (take (at + 1) maps) (drop (at + 1) maps)) now
    ∙ ap (λ n. tables ++ in_case_of (take at maps) m ∷ in_first_case (take n maps) (drop n maps)) e
    ∙ ap (λ ms. tables ++ in_case_of (take at maps) m ∷ in_first_case ms (drop (suc at) maps)) (take_got maps at m here.1)
    ∙ ap (λ ms. tables ++ in_first_case (take at maps) ms) (sym (drop_got maps at m here.1))
    ∙ so maps meant

pub cases_last : (tries : List TrieRef) (at : ℕ) (tables : List Pairs) → length tries ≤ at → AreInCase tries at tables → OfMeant tries (λ maps. tables ≡ in_first_case [] maps)
cases_last tries at tables end so maps meant =
    let long = meant_length tries maps meant in
    let none = drop_end maps at (omega (arith, long)) in
    sym (append-nil tables) ∙ sym (ap (λ ms. tables ++ in_first_case (take at maps) ms) none) ∙ so maps meant

-- what is said of what two tries mean
of_two : (one two : TrieRef) (Fact : List Meant → Type 0) → ((m n : Meant) → Means (kind_of one.kind) one.bytes.now m.1 → Means (kind_of two.kind) two.bytes.now n.1 → Fact (m ∷ n ∷ [])) → OfMeant (one ∷ two ∷ []) Fact
of_two one two Fact fact [] meant = absurd meant
of_two one two Fact fact (m ∷ []) meant = absurd meant.1
of_two one two Fact fact (m ∷ n ∷ []) meant = fact m n (means_of one m meant.0) (means_of two n meant.1.0)
of_two one two Fact fact (m ∷ n ∷ l ∷ maps) meant = absurd meant.1.1

pub of_these : (tries : List TrieRef) (d e : TrieRef) (Fact : List Meant → Type 0) → length tries ≡ 2
    → ((m n : Meant) → Means (kind_of (get_or tries 0 d).kind) (get_or tries 0 d).bytes.now m.1 → Means (kind_of (get_or tries 1 e).kind) (get_or tries 1 e).bytes.now n.1 → Fact (m ∷ n ∷ []))
    → OfMeant tries Fact
of_these [] d e Fact two fact = absurd (omega arith)
of_these (one ∷ []) d e Fact two fact = absurd (omega arith)
of_these (one ∷ other ∷ []) d e Fact two fact = of_two one other Fact fact
of_these (one ∷ other ∷ t ∷ tries) d e Fact two fact = absurd (omega arith)

-- ---- errors

-- an error that is passed on
pub passed_on : {T : Type 0} (r : Result T CombinationError) (e : CombinationError) (Fact : CombinationError → Type 0) → IsErrAnd r (λ y. y ≡ e) → Fact e → IfErr r Fact
passed_on (Ok x) e Fact is fact = absurd is
passed_on (Err y) e Fact is fact = subst Fact (sym is) fact

pub why_not : (c : Combination) (maps : List Meant) (e : CombinationError) → IsNotTaken c (listed maps) e → ExplainsMaps c maps e
why_not c maps (NoValue why key) h = h
why_not c maps (NotMade e) h = inl h

-- ---- the kind that is kept

all_of_kinds : (k : TrieKind) (tries : List TrieRef) → list_all (λ j. tag (kind_of j) == tag (kind_of k)) (map (λ t. t.kind) tries) ≡ list_all (λ t. tag (kind_of t.kind) == tag (kind_of k)) tries
all_of_kinds k [] = refl
all_of_kinds k (t ∷ tries) = ap (λ b. (tag (kind_of t.kind) == tag (kind_of k)) && b) (all_of_kinds k tries)

pub kind_kept_of : (tries others : List TrieRef) (first : TrieRef) (named : Option TrieKind) (all : Bool) → named ≡ None → tries ≡ first ∷ others
    → list_all (λ t. tag (kind_of t.kind) == tag (kind_of first.kind)) others ≡ all → (if all then Some first.kind else None) ≡ kind_kept named (map (λ t. t.kind) tries)
kind_kept_of tries others first named all none is same =
    ap (λ b. if b then Some first.kind else None) (sym (all_of_kinds first.kind others ∙ same))
    ∙ ap (λ ts. kind_kept None (map (λ t. t.kind) ts)) (sym is)
    ∙ ap (λ n. kind_kept n (map (λ t. t.kind) tries)) (sym none)

not_same : (a b : ℕ) → a ≢ b → (a == b) ≡ false
not_same a b h = by (eqb a b) refl
  where
    by : (same : Bool) → eqb a b ≡ same → same ≡ false
    by true is = absurd (h (eqb-true a b is))
    by false is = refl

-- one that has another kind
pub other_kind : (others : List TrieRef) (first : TrieRef) (i : ℕ) (d : TrieRef) (a b : ℕ) (all : Bool) → i < length others → a ≡ tag (kind_of (get_or others i d).kind) → b ≡ tag (kind_of first.kind) → a ≢ b
    → list_all (λ t. tag (kind_of t.kind) == tag (kind_of first.kind)) (drop i others) ≡ all → all ≡ false
other_kind others first i d a b all inside a_is b_is differ is =
    let fails : (tag (kind_of (get_or others i d).kind) == tag (kind_of first.kind)) ≡ false = not_same (tag (kind_of (get_or others i d).kind)) (tag (kind_of first.kind)) (λ e. differ (a_is ∙ e ∙ sym b_is)) in
    sym (all_failed (λ t. tag (kind_of t.kind) == tag (kind_of first.kind)) others i d all inside fails is)
