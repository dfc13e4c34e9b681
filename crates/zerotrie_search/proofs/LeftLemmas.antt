-- What is left of a sorted listing.
use Rattle.std.proofs.Common.{◌≡◌, ℕ, ◌-◌, List, [], ◌∷◌, ◌++◌, length, refl, sym, ◌∙◌, ap, subst, arith, ◌≤◌, Option, Some, None, Bool, true, false, cond, Ordering, Less, Equal, Greater}
use Rattle.std.specs.Prelude.{T, filter, ◌&&◌}
use Rattle.std.specs.Cmp.{unsigned_ties, eq_by_cmp_equiv}
use Rattle.std.specs.Cmp.Lexicographic.{slice_cmp, nat_list_cmp_total, lists_ties}
use Rattle.std.specs.FinMap.{entries, find, is_sorted, entries_sorted, nat_cmp-IsAntisymmetric, slice_cmp-IsAntisymmetric}
use Rattle.std.specs.FinMap.Entries.{below_all, is_sorted-where_key, find-where_key, same_entries}
use Rattle.std.specs.Ordering.{nat_cmp, is_le, is_lt, ordering_then, eq_by_cmp}
use Rattle.std.specs.Range.Bound.{is_from_start, is_up_to_end, bounds_contain}
use Rattle.std.specs.declared.ops.Bound.{Bound}
use Rattle.std.specs.declared.ops.Bound.TheVariants.{Included, Excluded, Unbounded}
use Rattle.zerotrie_base.specs.Kind.{Kind, simple_ascii}
use Rattle.zerotrie_base.specs.Texts.{Lists}
use Rattle.std.proofs.lemmas.List.Sums.{length-filter, count_by-le-length}
use Rattle.zerotrie_base.proofs.CanonicalLemmas.Bounds.{entries_count}
use Rattle.zerotrie_search.proofs.PathLemmas.{lists_few}
use Rattle.zerotrie_search.specs.Sorted.{within}
use Rattle.zerotrie_search.specs.SortedLaws.{SortedAscends}
use Rattle.zerotrie_base.specs.Maps.{Pairs, Map, map_of, value_at, same_key, Ascends}
use Rattle.zerotrie_core.proofs.CallerLemmas.{same-entries, exact_same, exact_itself, entries-map_of}
use Rattle.zerotrie_search.specs.Sets.{by_bytes}
use Rattle.zerotrie_search.specs.Paths.{is_from}
use Rattle.zerotrie_search.specs.Forks.{first_bound}
use Rattle.zerotrie_search.specs.Walks.{AreFew, SameKeys, IsNext, pairs_where}
use Rattle.zerotrie_core.specs.listing.Listed.{listed}
use Rattle.zerotrie_core.proofs.ForCallers.{listed_pairs}
use Rattle.std.proofs.lemmas.List.{nil_from_length}
use Rattle.zerotrie_search.proofs.OrderLemmas.{one_from, from_none}

-- keys are equal as the order of the map says
same_as_order : (p q : List ℕ) → same_key simple_ascii p q ≡ eq_by_cmp (slice_cmp nat_cmp) q p
same_as_order p q = lists_ties nat_cmp unsigned_ties p q ∙ (eq_by_cmp_equiv nat_list_cmp_total).symm p q

pub value_find : (pairs : Pairs) (key : List ℕ) → value_at simple_ascii pairs key ≡ find (slice_cmp nat_cmp) key pairs
value_find [] key = refl
value_find (e ∷ pairs) key = rw (same_as_order e.0 key, value_find pairs key) refl

pub alike_keys : (x y : List ℕ) → slice_cmp nat_cmp x y ≡ Equal → x ≡ y
alike_keys = slice_cmp-IsAntisymmetric nat_cmp-IsAntisymmetric

found_where : (p : List ℕ → Bool) (q : List ℕ) (es : Pairs) → find (slice_cmp nat_cmp) q (filter (λ e. p e.0) es) ≡ cond (p q) (find (slice_cmp nat_cmp) q es) None
found_where p q es = find-where_key (slice_cmp nat_cmp) p q (λ x e. ap p (sym (alike_keys q x e))) es

cond_same : (a b : Bool) (x : Option ℕ) → ((v : ℕ) → x ≡ Some v → a ≡ b) → cond a x None ≡ cond b x None
cond_same true true x h = refl
cond_same false false x h = refl
cond_same true false None h = refl
cond_same false true None h = refl
cond_same true false (Some v) h = absurd (let e = h v refl in cc)
cond_same false true (Some v) h = absurd (let e = h v refl in cc)

-- tests that agree on the keys of a map choose the same pairs
pub filter_alike : (m : Map) (p r : List ℕ → Bool) → ((q : List ℕ) (v : ℕ) → value_at simple_ascii (entries m) q ≡ Some v → p q ≡ r q) → filter (λ e. p e.0) (entries m) ≡ filter (λ e. r e.0) (entries m)
filter_alike m p r h =
    same_entries (slice_cmp nat_cmp) nat_list_cmp_total alike_keys (filter (λ e. p e.0) (entries m)) (filter (λ e. r e.0) (entries m))
    (is_sorted-where_key (slice_cmp nat_cmp) p (entries m) (entries_sorted m)) (is_sorted-where_key (slice_cmp nat_cmp) r (entries m) (entries_sorted m))
    (λ q. found_where p q (entries m) ∙ cond_same (p q) (r q) (find (slice_cmp nat_cmp) q (entries m)) (λ v e. h q v (value_find (entries m) q ∙ e)) ∙ sym (found_where r q (entries m)))

filter_no : (es : Pairs) → filter (λ e. false) es ≡ []
filter_no [] = refl
filter_no (e ∷ es) = filter_no es

pub filter_none : (m : Map) (p : List ℕ → Bool) → ((q : List ℕ) (v : ℕ) → value_at simple_ascii (entries m) q ≡ Some v → p q ≡ false) → filter (λ e. p e.0) (entries m) ≡ []
filter_none m p h = filter_alike m p (λ q. false) h ∙ filter_no (entries m)

-- behind a key come the keys above it
pub above_is : (key q : List ℕ) → is_from (key ++ 0 ∷ []) q ≡ is_lt (slice_cmp nat_cmp key q)
above_is [] [] = refl
above_is [] (c ∷ q) = one_from 0 c q (omega arith)
above_is (b ∷ key) [] = refl
above_is (b ∷ key) (c ∷ q) = by (nat_cmp b c) (slice_cmp nat_cmp (key ++ 0 ∷ []) q) (slice_cmp nat_cmp key q) (above_is key q)
  where
    by : (o s t : Ordering) → is_le s ≡ is_lt t → is_le (ordering_then o s) ≡ is_lt (ordering_then o t)
    by Less s t h = refl
    by Equal s t h = h
    by Greater s t h = refl

lt_le : (o : Ordering) → (o ≡ Equal → ⊥) → is_lt o ≡ is_le o
lt_le Less h = refl
lt_le Equal h = absurd (h refl)
lt_le Greater h = refl

pub above_other : (key q : List ℕ) → (key ≡ q → ⊥) → is_from (key ++ 0 ∷ []) q ≡ is_from key q
above_other key q other = above_is key q ∙ lt_le (slice_cmp nat_cmp key q) (λ e. other (alike_keys key q e))

and_first : (a b : Bool) → (a && b) ≡ true → a ≡ true
and_first true b e = refl
and_first false b e = e

true_T : (b : Bool) → b ≡ true → T b
true_T b e = subst T (sym e) tt

both_T : (a b : Bool) → T a → T b → T (a && b)
both_T true b p q = q
both_T false b p q = absurd p

below_kept : (key : List ℕ) (e : List ℕ × ℕ) (es : Pairs) (t : Bool) → (t ≡ true → is_lt (slice_cmp nat_cmp key e.0) ≡ true) → T (below_all (slice_cmp nat_cmp) key es) → T (below_all (slice_cmp nat_cmp) key (cond t (e ∷ es) es))
below_kept key e es true h b = both_T (is_lt (slice_cmp nat_cmp key e.0)) (below_all (slice_cmp nat_cmp) key es) (true_T (is_lt (slice_cmp nat_cmp key e.0)) (h refl)) b
below_kept key e es false h b = b

below_where : (key : List ℕ) (p : List ℕ → Bool) (es : Pairs) → ((q : List ℕ) → p q ≡ true → is_lt (slice_cmp nat_cmp key q) ≡ true) → T (below_all (slice_cmp nat_cmp) key (filter (λ e. p e.0) es))
below_where key p [] h = tt
below_where key p (e ∷ es) h = below_kept key e (filter (λ e. p e.0) es) (p e.0) (h e.0) (below_where key p es h)

-- the value of a key, or what comes behind the key
one_first : (t : Bool) (v : ℕ) (p r : Bool) (x : Option ℕ) → (t ≡ true → (x ≡ Some v) × (p ≡ true)) → (t ≡ false → (w : ℕ) → x ≡ Some w → p ≡ r) → cond p x None ≡ cond t (Some v) (cond r x None)
one_first true v p r x h g = let a = h refl in ap (λ b. cond b x None) a.1 ∙ a.0
one_first false v p r x h g = cond_same p r x (g refl)

pub tied_same : (q key : List ℕ) → eq_by_cmp (slice_cmp nat_cmp) q key ≡ true → key ≡ q
tied_same q key e = exact_same key q (same_as_order key q ∙ e)

not_tied : (q key : List ℕ) → eq_by_cmp (slice_cmp nat_cmp) q key ≡ false → key ≡ q → ⊥
not_tied q key e same =
    let t : eq_by_cmp (slice_cmp nat_cmp) key key ≡ true = sym (same_as_order key key) ∙ exact_itself key in
    let f : eq_by_cmp (slice_cmp nat_cmp) key key ≡ false = subst (λ x. eq_by_cmp (slice_cmp nat_cmp) x key ≡ false) (sym same) e in
    cc

-- the first pair of those that are left, and the others
pub first_left : (m : Map) (p r : List ℕ → Bool) (key : List ℕ) (v : ℕ) → value_at simple_ascii (entries m) key ≡ Some v → p key ≡ true
    → ((q : List ℕ) (w : ℕ) → value_at simple_ascii (entries m) q ≡ Some w → (key ≡ q → ⊥) → p q ≡ r q) → ((q : List ℕ) → r q ≡ true → is_lt (slice_cmp nat_cmp key q) ≡ true)
    → filter (λ e. p e.0) (entries m) ≡ (key, v) ∷ filter (λ e. r e.0) (entries m)
first_left m p r key v here passes others above =
    same_entries (slice_cmp nat_cmp) nat_list_cmp_total alike_keys (filter (λ e. p e.0) (entries m)) ((key, v) ∷ filter (λ e. r e.0) (entries m))
    (is_sorted-where_key (slice_cmp nat_cmp) p (entries m) (entries_sorted m))
    (both_T (below_all (slice_cmp nat_cmp) key (filter (λ e. r e.0) (entries m))) (is_sorted (slice_cmp nat_cmp) (filter (λ e. r e.0) (entries m)))
    (below_where key r (entries m) above) (is_sorted-where_key (slice_cmp nat_cmp) r (entries m) (entries_sorted m)))
    (λ q. found_where p q (entries m)
    ∙ one_first (eq_by_cmp (slice_cmp nat_cmp) q key) v (p q) (r q) (find (slice_cmp nat_cmp) q (entries m))
    (λ t. (let same = tied_same q key t in (subst (λ x. find (slice_cmp nat_cmp) x (entries m) ≡ Some v) same (sym (value_find (entries m) key) ∙ here), subst (λ x. p x ≡ true) same passes)))
    (λ f w e. others q w (value_find (entries m) q ∙ e) (not_tied q key f))
    ∙ ap (λ x. cond (eq_by_cmp (slice_cmp nat_cmp) q key) (Some v) x) (sym (found_where r q (entries m))))

-- an end that is past a key is past the keys below it
pub le_more : (a b c : List ℕ) → is_le (slice_cmp nat_cmp a b) ≡ true → is_le (slice_cmp nat_cmp b c) ≡ true → is_le (slice_cmp nat_cmp a c) ≡ true
le_more a b c = by (slice_cmp nat_cmp a b) (slice_cmp nat_cmp b c) refl refl
  where
    by : (o s : Ordering) → slice_cmp nat_cmp a b ≡ o → slice_cmp nat_cmp b c ≡ s → is_le o ≡ true → is_le s ≡ true → is_le (slice_cmp nat_cmp a c) ≡ true
    by Less Less e f h g = ap is_le (nat_list_cmp_total.trans a b c e f)
    by Less Equal e f h g = subst (λ x. is_le (slice_cmp nat_cmp a x) ≡ true) (alike_keys b c f) (ap is_le e)
    by Less Greater e f h g = absurd (cc)
    by Equal Less e f h g = subst (λ x. is_le (slice_cmp nat_cmp x c) ≡ true) (sym (alike_keys a b e)) (ap is_le f)
    by Equal Equal e f h g = subst (λ x. is_le (slice_cmp nat_cmp x c) ≡ true) (sym (alike_keys a b e)) (ap is_le f)
    by Equal Greater e f h g = absurd (cc)
    by Greater s e f h g = absurd (cc)

pub lt_more : (a b c : List ℕ) → is_le (slice_cmp nat_cmp a b) ≡ true → is_lt (slice_cmp nat_cmp b c) ≡ true → is_lt (slice_cmp nat_cmp a c) ≡ true
lt_more a b c = by (slice_cmp nat_cmp a b) (slice_cmp nat_cmp b c) refl refl
  where
    by : (o s : Ordering) → slice_cmp nat_cmp a b ≡ o → slice_cmp nat_cmp b c ≡ s → is_le o ≡ true → is_lt s ≡ true → is_lt (slice_cmp nat_cmp a c) ≡ true
    by Less Less e f h g = ap is_lt (nat_list_cmp_total.trans a b c e f)
    by Equal Less e f h g = subst (λ x. is_lt (slice_cmp nat_cmp x c) ≡ true) (sym (alike_keys a b e)) (ap is_lt f)
    by Less Equal e f h g = absurd (cc)
    by Less Greater e f h g = absurd (cc)
    by Equal Equal e f h g = absurd (cc)
    by Equal Greater e f h g = absurd (cc)
    by Greater s e f h g = absurd (cc)

pub end_below : (to : Bound (List ℕ)) (key q : List ℕ) → is_from key q ≡ true → is_up_to_end by_bytes to q ≡ true → is_up_to_end by_bytes to key ≡ true
end_below (Included b) key q h g = le_more key q b h g
end_below (Excluded b) key q h g = lt_more key q b h g
end_below Unbounded key q h g = refl

beyond : (a b : Bool) → (a ≡ true → b ≡ true → ⊥) → (a && b) ≡ false
beyond true true h = absurd (h refl refl)
beyond true false h = refl
beyond false b h = refl

lt_le_more : (o : Ordering) → is_lt o ≡ true → is_le o ≡ true
lt_le_more Less e = refl
lt_le_more Equal e = absurd (cc)
lt_le_more Greater e = absurd (cc)

module _ (pairs : Pairs) (to : Bound (List ℕ)) where
  abbrev up : List ℕ → Bool
  up q = is_up_to_end by_bytes to q

  -- tests that agree choose the same pairs
  pub chosen_same : (p r : List ℕ → Bool) → SameKeys pairs p r → pairs_where pairs to p ≡ pairs_where pairs to r
  chosen_same p r same = filter_alike (map_of pairs) (λ q. p q && up q) (λ q. r q && up q) (λ q v e. ap (λ t. t && up q) (same q v (sym (same-entries pairs q) ∙ e)))

  pub chosen_none : (p : List ℕ → Bool) → SameKeys pairs p (λ q. false) → pairs_where pairs to p ≡ []
  chosen_none p none = filter_none (map_of pairs) (λ q. p q && up q) (λ q v e. ap (λ t. t && up q) (none q v (sym (same-entries pairs q) ∙ e)))

  -- at a pair
  module _ (p r : List ℕ → Bool) (key : List ℕ) (v : ℕ) (n : IsNext pairs p r key v) where
    pub chosen_next : is_up_to_end by_bytes to key ≡ true → pairs_where pairs to p ≡ (key, v) ∷ pairs_where pairs to r
    chosen_next ends =
        first_left (map_of pairs) (λ q. p q && up q) (λ q. r q && up q) key v (same-entries pairs key ∙ n.value)
        (ap (λ t. t && up key) n.here ∙ ends)
        (λ q w e other. ap (λ t. t && up q) (n.others q w (sym (same-entries pairs q) ∙ e) other))
        (λ q t. n.above q (and_first (r q) (up q) t))

    -- past the end
    pub chosen_beyond : is_up_to_end by_bytes to key ≡ false → pairs_where pairs to p ≡ []
    chosen_beyond past = filter_none (map_of pairs) (λ q. p q && up q) (λ q w e. beyond (p q) (up q) (λ f u. by q w (sym (same-entries pairs q) ∙ e) f u (eq_by_cmp (slice_cmp nat_cmp) q key) refl))
      where
        by : (q : List ℕ) (w : ℕ) → value_at simple_ascii pairs q ≡ Some w → p q ≡ true → up q ≡ true → (t : Bool) → eq_by_cmp (slice_cmp nat_cmp) q key ≡ t → ⊥
        by q w e f u true h = (let yes : up key ≡ true = ap up (tied_same q key h) ∙ u in let no = past in cc)
        by q w e f u false h =
            (let later = n.above q (sym (n.others q w e (not_tied q key h)) ∙ f) in let yes : up key ≡ true = end_below to key q (lt_le_more (slice_cmp nat_cmp key q) later) u in let no = past in cc)

-- the same of what bytes list
module _ {kind : Kind} {bytes : List ℕ} {pairs : Pairs} (lists : Lists kind bytes pairs) (to : Bound (List ℕ)) (p r : List ℕ → Bool) where
  pub left_same : SameKeys pairs p r → pairs_where (listed kind bytes) to r ≡ pairs_where (listed kind bytes) to p
  left_same same = subst (λ ps. pairs_where ps to r ≡ pairs_where ps to p) (sym (listed_pairs lists)) (sym (chosen_same pairs to p r same))

  pub left_none : SameKeys pairs p (λ q. false) → pairs_where (listed kind bytes) to p ≡ []
  left_none none = subst (λ ps. pairs_where ps to p ≡ []) (sym (listed_pairs lists)) (chosen_none pairs to p none)

  pub left_few : (most : ℕ) → AreFew pairs to p most → most ≡ 0 → pairs_where (listed kind bytes) to p ≡ []
  left_few most few none = subst (λ ps. pairs_where ps to p ≡ []) (sym (listed_pairs lists)) (nil_from_length (pairs_where pairs to p) (omega (arith, few, none)))

  pub few_same : (most : ℕ) → SameKeys pairs p r → AreFew pairs to p most → AreFew pairs to r most
  few_same most same few = let is = ap length (chosen_same pairs to p r same) in omega (arith, is, few)

  module _ (key : List ℕ) (v : ℕ) (n : IsNext pairs p r key v) where
    pub left_next : is_up_to_end by_bytes to key ≡ true → pairs_where (listed kind bytes) to p ≡ (key, v) ∷ pairs_where (listed kind bytes) to r
    left_next ends = subst (λ ps. pairs_where ps to p ≡ (key, v) ∷ pairs_where ps to r) (sym (listed_pairs lists)) (chosen_next pairs to p r key v n ends)

    pub left_beyond : is_up_to_end by_bytes to key ≡ false → pairs_where (listed kind bytes) to p ≡ []
    left_beyond past = subst (λ ps. pairs_where ps to p ≡ []) (sym (listed_pairs lists)) (chosen_beyond pairs to p r key v n past)

    pub few_next : (most : ℕ) → is_up_to_end by_bytes to key ≡ true → AreFew pairs to p most → AreFew pairs to r (most - 1)
    few_next most ends few = let is = ap length (chosen_next pairs to p r key v n ends) in omega (arith, is, few)

-- a listing has no more pairs than bytes
pub few_where : {kind : Kind} {bytes : List ℕ} {pairs : Pairs} → Lists kind bytes pairs → (to : Bound (List ℕ)) (p : List ℕ → Bool) → length (pairs_where pairs to p) ≤ length bytes
few_where {pairs = pairs} lists to p =
    let passes : List ℕ × ℕ → Bool = λ e. p e.0 && is_up_to_end by_bytes to e.0 in
    let count = length-filter passes (entries (map_of pairs)) in
    let fewer = count_by-le-length passes (entries (map_of pairs)) in
    let each = entries_count pairs in
    let most = lists_few lists in
    omega (arith, count, fewer, each, most)

-- where a listing starts
pub first_from : (from : Bound (List ℕ)) (q : List ℕ) → is_from (first_bound from) q ≡ is_from_start by_bytes from q
first_from (Included b) q = refl
first_from (Excluded b) q = above_is b q
first_from Unbounded q = from_none q

pub starts_left : (pairs : Pairs) (from to : Bound (List ℕ)) → pairs_where pairs to (is_from (first_bound from)) ≡ within from to (map_of pairs)
starts_left pairs from to =
    filter_alike (map_of pairs) (λ q. is_from (first_bound from) q && is_up_to_end by_bytes to q) (λ q. bounds_contain by_bytes from to q)
    (λ q v e. ap (λ t. t && is_up_to_end by_bytes to q) (first_from from q))

-- pairs that are sorted ascend
less_is : (o : Ordering) → T (is_lt o) → o ≡ Less
less_is Less h = refl
less_is Equal h = absurd h
less_is Greater h = absurd h

pub first_T : (a b : Bool) → T (a && b) → T a
first_T true b h = tt
first_T false b h = absurd h

pub second_T : (a b : Bool) → T (a && b) → T b
second_T true b h = h
second_T false b h = absurd h

pub sorted_ascends : (es : Pairs) → T (is_sorted (slice_cmp nat_cmp) es) → Ascends es
sorted_ascends [] h = tt
sorted_ascends (e ∷ []) h = (tt, tt)
sorted_ascends (e ∷ f ∷ es) h =
    let below = first_T (below_all (slice_cmp nat_cmp) e.0 (f ∷ es)) (is_sorted (slice_cmp nat_cmp) (f ∷ es)) h in (
      less_is (slice_cmp nat_cmp e.0 f.0) (first_T (is_lt (slice_cmp nat_cmp e.0 f.0)) (below_all (slice_cmp nat_cmp) e.0 es) below),
      sorted_ascends (f ∷ es) (second_T (below_all (slice_cmp nat_cmp) e.0 (f ∷ es)) (is_sorted (slice_cmp nat_cmp) (f ∷ es)) h),
    )

pub within_ascends : SortedAscends
within_ascends from to m = sorted_ascends (within from to m) (is_sorted-where_key (slice_cmp nat_cmp) (bounds_contain by_bytes from to) (entries m) (entries_sorted m))

filter_all : (es : Pairs) → filter (λ e. true) es ≡ es
filter_all [] = refl
filter_all (e ∷ es) = ap (λ x. e ∷ x) (filter_all es)

pub within_all : (pairs : Pairs) → Ascends pairs → within Unbounded Unbounded (map_of pairs) ≡ pairs
within_all pairs up = filter_all (entries (map_of pairs)) ∙ entries-map_of pairs up
