-- What is selected of tries.
use Rattle.std.proofs.Common.{◌≡◌, ℕ, ◌+◌, ◌<◌, inl, inr, zero, suc, List, [], ◌∷◌, ◌++◌, take, drop, map, get_or, length, length-append, refl, sym, ◌∙◌, ap, subst, arith, append_assoc, Option, Some, None}
use Rattle.std.specs.Prelude.{Any, zip}
use Rattle.std.proofs.Math.Seq.{take-suc, drop-append_seam, take-append_seam}
use Rattle.std.proofs.lemmas.List.{drop-take, append-nil}
use Rattle.std.specs.List.{AllZip}
use Rattle.zerotrie_core.specs.Kinds.{kind_of as kind_that_is}
use Rattle.zerotrie_core.specs.Maps.{Pairs, Ascends}
use Rattle.zerotrie_core.specs.Texts.{Means}
use Rattle.zerotrie_core.specs.WellFormed.{IsWellFormed}
use Rattle.zerotrie_core.specs.declared.TrieRef.{TrieRef}
use Rattle.zerotrie_sets.specs.Merges.{Entries, if_some}
use Rattle.zerotrie_sets.specs.Streams.{Stand}
use Rattle.zerotrie_sets.specs.Rows.{Values, EachAscends}
use Rattle.zerotrie_sets.specs.Selections.{IsRuleError, SomeRowErrs}
use Rattle.zerotrie_sets.specs.declared.selection.Selection.{Selection}
use Rattle.zerotrie_sets.specs.declared.selection.Rule.{Rule}
use Rattle.zerotrie_sets.specs.declared.selection.RuleError.{RuleError}
use Rattle.zerotrie_c.specs.Builds.{given_flat}
use Rattle.zerotrie_c.specs.Keys.{keys_from}
use Rattle.zerotrie_c.specs.Listed.{joined, ends_from, values_of, IsFlat}
use Rattle.zerotrie_c.specs.Sets.{IsMeant, IsNoTrie, IsTrieOf, AreOfTrie}
use Rattle.zerotrie_c.specs.declared.sets.Source.{Source}
use Rattle.zerotrie_c.proofs.EntryLemmas.{any_here, any_there, any_head}

-- ---- lists that are alike

alike_more : {A B : Type 0} (R : A → B → Type 0) (xs : List A) (ys : List B) (x : A) (y : B) → AllZip R xs ys → R x y → AllZip R (xs ++ x ∷ []) (ys ++ y ∷ [])
alike_more R [] [] x y a r = (r, tt)
alike_more R [] (w ∷ ys) x y a r = absurd a
alike_more R (z ∷ xs) [] x y a r = absurd a
alike_more R (z ∷ xs) (w ∷ ys) x y a r = (a.0, alike_more R xs ys x y a.1 r)

-- one element more of those before a place
pub alike_next : {A B : Type 0} (R : A → B → Type 0) (xs : List A) (i : ℕ) (d : A) (ys : List B) (y : B) → i < length xs
    → AllZip R (take i xs) ys → R (get_or xs i d) y → AllZip R (take (i + 1) xs) (ys ++ y ∷ [])
alike_next R xs i d ys y inside a r =
    let e : i + 1 ≡ suc i = omega arith in
    subst (λ zs. AllZip R zs (ys ++ y ∷ [])) (sym (ap (λ n. take n xs) e ∙ take-suc xs i d inside)) (alike_more R (take i xs) ys (get_or xs i d) y a r)

-- one of a list
pub any_at : {A : Type 0} (P : A → Type 0) (xs : List A) (i : ℕ) (d : A) → i < length xs → P (get_or xs i d) → Any P xs
any_at P [] i d inside h = absurd (omega (arith, inside))
any_at P (x ∷ xs) zero d inside h = any_here P x xs h
any_at P (x ∷ xs) (suc i) d inside h = any_there P x xs (any_at P xs i d (omega (arith, inside)) h)

pub ascend_more : (lists : List Pairs) (pairs : Pairs) → EachAscends lists → Ascends pairs → EachAscends (lists ++ pairs ∷ [])
ascend_more [] pairs all one = (one, tt)
ascend_more (first ∷ lists) pairs all one = (all.0, ascend_more lists pairs all.1 one)

-- the pairs of the tries are those of the sources
pub all_meant : (sources : List Source) (tries : List TrieRef) (lists : List Pairs) → AllZip IsTrieOf sources tries → AllZip AreOfTrie tries lists → AllZip IsMeant sources lists
all_meant [] [] [] a b = tt
all_meant [] [] (l ∷ lists) a b = absurd b
all_meant [] (t ∷ tries) lists a b = absurd a
all_meant (s ∷ sources) [] lists a b = absurd a
all_meant (s ∷ sources) (t ∷ tries) [] a b = absurd b
all_meant (s ∷ sources) (t ∷ tries) (l ∷ lists) a b = (
  (kind_that_is t.kind, b.0.0, a.0.0, subst (λ bytes. Means (kind_that_is t.kind) bytes b.0.0) a.0.1 b.0.1, b.0.2),
  all_meant sources tries lists a.1 b.1,
)

-- one that is no trie is that of a source
pub some_source : (sources : List Source) (tries : List TrieRef) → AllZip IsTrieOf sources tries → Any (λ t. IsWellFormed (kind_that_is t.kind) t.bytes.now → ⊥) tries → Any IsNoTrie sources
some_source [] [] a any = absurd (omega (arith, any.2))
some_source [] (t ∷ tries) a any = absurd a
some_source (s ∷ sources) [] a any = absurd a
some_source (s ∷ sources) (t ∷ tries) a any = elim (any_head (λ t. IsWellFormed (kind_that_is t.kind) t.bytes.now → ⊥) t tries any.0 any.1 any.2 any.3 any.4) [
  | inl none ↦ any_here IsNoTrie s sources (kind_that_is t.kind, a.0.0, λ well. none (subst (λ bytes. IsWellFormed (kind_that_is t.kind) bytes) (sym a.0.1) well))
  | inr more ↦ any_there IsNoTrie s sources (some_source sources tries a.1 more)
]

-- what is left of streams
abbrev pub lefts : List Stand → List Pairs
lefts streams = map {B = Pairs} (λ s. s.left.pairs) streams

pub lefts_more : (streams : List Stand) (s : Stand) → lefts (streams ++ s ∷ []) ≡ lefts streams ++ s.left.pairs ∷ []
lefts_more [] s = refl
lefts_more (first ∷ streams) s = ap (λ ps. first.left.pairs ∷ ps) (lefts_more streams s)

-- ---- the rows of a merge, one after another

pub keys_step : (keys key : List ℕ) (o : Option ℕ) (pairs : Pairs) → (keys ++ joined (if_some key o [])) ++ joined pairs ≡ keys ++ joined (if_some key o pairs)
keys_step keys key None pairs = ap (λ ks. ks ++ joined pairs) (append-nil keys)
keys_step keys key (Some v) pairs = append_assoc keys (key ++ []) (joined pairs) ∙ ap (λ k. keys ++ (k ++ joined pairs)) (append-nil key)

ends_step : (ends keys key : List ℕ) (o : Option ℕ) (pairs : Pairs)
    → (ends ++ ends_from (length keys) (if_some key o [])) ++ ends_from (length (keys ++ joined (if_some key o []))) pairs ≡ ends ++ ends_from (length keys) (if_some key o pairs)
ends_step ends keys key None pairs = ap (λ es. es ++ ends_from (length (keys ++ [])) pairs) (append-nil ends) ∙ ap (λ k. ends ++ ends_from (length k) pairs) (append-nil keys)
ends_step ends keys key (Some v) pairs =
    append_assoc ends ((length keys + length key) ∷ []) (ends_from (length (keys ++ (key ++ []))) pairs)
    ∙ ap (λ k. ends ++ (length keys + length key) ∷ ends_from (length (keys ++ k)) pairs) (append-nil key)
    ∙ ap (λ n. ends ++ (length keys + length key) ∷ ends_from n pairs) (length-append keys key)

-- where the keys end that were added, and those to come
pub added_ends : (old ends old_keys keys key : List ℕ) (o : Option ℕ) (pairs : Pairs) → keys ≡ old_keys ++ joined (if_some key o []) → ends ≡ old ++ ends_from (length old_keys) (if_some key o [])
    → ends ++ ends_from (length keys) pairs ≡ old ++ ends_from (length old_keys) (if_some key o pairs)
added_ends old ends old_keys keys key o pairs keys_are ends_are =
    ap (λ es. es ++ ends_from (length keys) pairs) ends_are
    ∙ ap (λ ks. (old ++ ends_from (length old_keys) (if_some key o [])) ++ ends_from (length ks) pairs) keys_are
    ∙ ends_step old old_keys key o pairs

pub values_step : (values key : List ℕ) (o : Option ℕ) (pairs : Pairs) → (values ++ values_of (if_some key o [])) ++ values_of pairs ≡ values ++ values_of (if_some key o pairs)
values_step values key None pairs = ap (λ vs. vs ++ values_of pairs) (append-nil values)
values_step values key (Some v) pairs = append_assoc values (v ∷ []) (values_of pairs)

-- the errors are those of the rows after one that is none
pub errs_later : (selection : Selection) (rule : Rule) (row : List ℕ × Values) (rows : Entries Values) (e : RuleError) → (IsRuleError selection rule row.1 e → ⊥)
    → SomeRowErrs selection rule (row ∷ rows) e → SomeRowErrs selection rule rows e
errs_later selection rule row rows e allowed errs = elim errs [
  | inl h ↦ absurd (allowed h)
  | inr more ↦ more
]

-- ---- keys that lie one after another

-- the parts of the keys are the pairs again
flat_from : (front : List ℕ) (pairs : Pairs) → zip (keys_from (length front) (front ++ joined pairs) (ends_from (length front) pairs)) (values_of pairs) ≡ pairs
flat_from front [] = refl
flat_from front (p ∷ pairs) =
    let n = length front in
    let bytes = front ++ (p.0 ++ joined pairs) in
    let key : drop n (take (n + length p.0) bytes) ≡ p.0 = drop-take n (length p.0) bytes ∙ ap (take (length p.0)) (drop-append_seam front (p.0 ++ joined pairs)) ∙ take-append_seam p.0 (joined pairs) in
    let more : zip (keys_from (n + length p.0) bytes (ends_from (n + length p.0) pairs)) (values_of pairs) ≡ pairs =
    ap (λ m. zip (keys_from m bytes (ends_from m pairs)) (values_of pairs)) (sym (length-append front p.0))
    ∙ ap (λ b. zip (keys_from (length (front ++ p.0)) b (ends_from (length (front ++ p.0)) pairs)) (values_of pairs)) (sym (append_assoc front p.0 (joined pairs)))
    ∙ flat_from (front ++ p.0) pairs in
    ap (λ k. (k, p.1) ∷ zip (keys_from (n + length p.0) bytes (ends_from (n + length p.0) pairs)) (values_of pairs)) key ∙ ap (λ ps. p ∷ ps) more

pub flat_pairs : (pairs : Pairs) → given_flat (joined pairs) (ends_from 0 pairs) (values_of pairs) ≡ pairs
flat_pairs pairs = flat_from [] pairs

pub flat_given : (pairs : Pairs) (keys ends values : List ℕ) → IsFlat pairs keys ends values → given_flat keys ends values ≡ pairs
flat_given pairs keys ends values f =
    ap (λ k. given_flat k ends values) f.keys_are
    ∙ ap (λ e. given_flat (joined pairs) e values) f.ends_are
    ∙ ap (λ v. given_flat (joined pairs) (ends_from 0 pairs) v) f.values_are
    ∙ flat_pairs pairs
