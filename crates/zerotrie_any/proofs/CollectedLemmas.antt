-- The ordered map that is collected of pairs, each key by its bytes.
use Rattle.std.proofs.Common.{◌≡◌, ◌&&◌, ℕ, List, [], ◌∷◌, T, refl, sym, ◌∙◌, ap, subst, Bool, true, false, cond, Option, Some, None, Ordering, Less, Equal, Greater}
use Rattle.std.specs.FinMap.{find, put, is_sorted, slice_cmp-IsAntisymmetric, nat_cmp-IsAntisymmetric}
use Rattle.std.specs.FinMap.Entries.{below_all, find-put, is_sorted-put, same_entries}
use Rattle.std.specs.Ordering.{nat_cmp, eq_by_cmp, is_eq, is_lt}
use Rattle.std.specs.Cmp.{eq_by_cmp_equiv}
use Rattle.std.specs.Cmp.Lexicographic.{slice_cmp, nat_list_cmp_total}
use Rattle.std.specs.BTreeMap.{BTreeMap, IsFromIterResult, is_at}
use Rattle.std.specs.Map.{keys_of, lookup, update_all}
use Rattle.std.specs.List.{AllByRecursion}
use Rattle.std.specs.List.Sorted.{IsStrictlySortedBy}
use Rattle.std.proofs.lemmas.Map.Keys.{sorted_head, sorted_tail}
use Rattle.zerotrie_core.specs.Maps.{Pairs}
use Rattle.zerotrie_core.specs.Items.{keyed}
use Rattle.zerotrie_core.proofs.CallerLemmas.{put_all}

abbrev bytes_cmp : List ℕ → List ℕ → Ordering
bytes_cmp = slice_cmp nat_cmp

is_equal : (o : Ordering) → is_eq o ≡ true → o ≡ Equal
is_equal Less e = absurd (cc)
is_equal Equal e = refl
is_equal Greater e = absurd (cc)

tied_same : (p q : List ℕ) → eq_by_cmp bytes_cmp p q ≡ true → p ≡ q
tied_same p q e = slice_cmp-IsAntisymmetric nat_cmp-IsAntisymmetric p q (is_equal (bytes_cmp p q) e)

both : (a b : Bool) → T a → T b → T (a && b)
both true b p q = q
both false b p q = p

-- pairs put in one after another stay in order
put_all_sorted : (pairs es : Pairs) → T (is_sorted bytes_cmp es) → T (is_sorted bytes_cmp (put_all pairs es))
put_all_sorted [] es h = h
put_all_sorted (e ∷ pairs) es h = put_all_sorted pairs (put bytes_cmp e.0 e.1 es) (is_sorted-put bytes_cmp nat_list_cmp_total e.0 e.1 es h)

module _ {K : Type 0} (cmp : K → K → Ordering) (key : K → List ℕ) (same : (j k : K) → cmp j k ≡ bytes_cmp (key j) (key k)) where
  below : (k : K) (es : List (K × ℕ)) → AllByRecursion (λ j. cmp k j ≡ Less) (keys_of es) → T (below_all bytes_cmp (key k) (keyed key es))
  below k [] h = tt
  below k (e ∷ es) h = both _ _ (subst (λ o. T (is_lt o)) (sym h.0 ∙ same k e.0) tt) (below k es h.1)

  keyed_sorted : (es : List (K × ℕ)) → IsStrictlySortedBy cmp (keys_of es) → T (is_sorted bytes_cmp (keyed key es))
  keyed_sorted [] s = tt
  keyed_sorted (e ∷ es) s = both _ _ (below e.0 es (sorted_head cmp e.0 (keys_of es) s)) (keyed_sorted es (sorted_tail cmp e.0 (keys_of es) s))

  -- a key is found among the entries as its bytes among the pairs
  found : (k : K) (es : List (K × ℕ)) → lookup (is_at (cmp k)) es ≡ find bytes_cmp (key k) (keyed key es)
  found k [] = refl
  found k (e ∷ es) = rw (same k e.0, found k es) refl

  -- and what was inserted in turn, as what was put in one after another
  inserted : (k : K) (xs : List (K × ℕ)) (f : K → Option ℕ) (es : Pairs) → f k ≡ find bytes_cmp (key k) es
      → update_all (eq_by_cmp cmp) f xs k ≡ find bytes_cmp (key k) (put_all (keyed key xs) es)
  inserted k [] f es h = h
  inserted k (x ∷ xs) f es h = inserted k xs _ (put bytes_cmp (key x.0) x.1 es)
      (ap (λ o. cond (is_eq o) (Some x.1) (f k)) (same x.0 k)
      ∙ ap (λ b. cond b (Some x.1) (f k)) ((eq_by_cmp_equiv nat_list_cmp_total).symm (key x.0) (key k))
      ∙ ap (cond (eq_by_cmp bytes_cmp (key k) (key x.0)) (Some x.1)) h
      ∙ sym (find-put bytes_cmp nat_list_cmp_total (key k) (key x.0) x.1 es))

  -- bytes are those of a key of the entries, or are not found there
  some_key : {P : Type 0} (q : List ℕ) (es : List (K × ℕ)) → ((k : K) → key k ≡ q → P) → (find bytes_cmp q (keyed key es) ≡ None → P) → P
  some_key q [] here gone = gone refl
  some_key {P} q (e ∷ es) here gone = elim (eq_by_cmp bytes_cmp q (key e.0)) as (λ b. eq_by_cmp bytes_cmp q (key e.0) ≡ b → (cond b (Some e.1) (find bytes_cmp q (keyed key es)) ≡ None → P) → P) [
    | true ↦ λ t other. here e.0 (sym (tied_same q (key e.0) t))
    | false ↦ λ t other. some_key q es here other
  ] refl gone

  -- or change nothing when the pairs are put in
  some_put : {P : Type 0} (q : List ℕ) (xs : List (K × ℕ)) (es : Pairs) → ((k : K) → key k ≡ q → P) → (find bytes_cmp q (put_all (keyed key xs) es) ≡ find bytes_cmp q es → P) → P
  some_put q [] es here gone = gone refl
  some_put {P} q (x ∷ xs) es here gone = elim (eq_by_cmp bytes_cmp q (key x.0)) as (λ b. eq_by_cmp bytes_cmp q (key x.0) ≡ b → P) [
    | true ↦ λ t. here x.0 (sym (tied_same q (key x.0) t))
    | false ↦ λ t. some_put q xs (put bytes_cmp (key x.0) x.1 es) here
        (λ kept. gone (kept ∙ find-put bytes_cmp nat_list_cmp_total q (key x.0) x.1 es ∙ ap (λ b. cond b (Some x.1) (find bytes_cmp q es)) t))
  ] refl

  -- a map that is collected of pairs has the entries that they make, put in one after another
  pub collected : (xs : List (K × ℕ)) {given : List (K × ℕ)} (m : BTreeMap K ℕ) → given ≡ xs → IsFromIterResult cmp given m → keyed key m.entries ≡ put_all (keyed key xs) []
  collected xs {given = given} m e is =
      let at : (k : K) → find bytes_cmp (key k) (keyed key m.entries) ≡ find bytes_cmp (key k) (put_all (keyed key xs) []) =
      λ k. sym (found k m.entries) ∙ is.0 k ∙ ap (λ ys. update_all (eq_by_cmp cmp) (λ j. None) ys k) e ∙ inserted k xs (λ j. None) [] refl in
      same_entries bytes_cmp nat_list_cmp_total (slice_cmp-IsAntisymmetric nat_cmp-IsAntisymmetric) (keyed key m.entries) (put_all (keyed key xs) [])
      (keyed_sorted m.entries is.1) (put_all_sorted (keyed key xs) [] tt)
      (λ q.
      let here : (k : K) → key k ≡ q → find bytes_cmp q (keyed key m.entries) ≡ find bytes_cmp q (put_all (keyed key xs) []) =
      λ k e. subst (λ b. find bytes_cmp b (keyed key m.entries) ≡ find bytes_cmp b (put_all (keyed key xs) [])) e (at k) in
      some_key q m.entries here (λ none. some_put q xs [] here (λ kept. none ∙ sym kept)))
