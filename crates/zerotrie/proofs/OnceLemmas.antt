-- No key comes twice in the primary of a table.
use Rattle.std.proofs.Common.{◌≡◌, ℕ, ◌+◌, ◌<◌, List, [], ◌∷◌, ◌++◌, refl, sym, ap, subst, ◌∙◌, arith, Bool, true, false, cond, inl, inr, Option, Some, None, length, get_or, map, zero, suc}
use Rattle.std.specs.Prelude.{◌&&◌, is_some, not}
use Rattle.zerotrie_core.specs.Kind.{simple_ascii}
use Rattle.zerotrie_core.specs.Maps.{Pairs, Ascends, RepeatsKey}
use Rattle.zerotrie_core.proofs.CallerLemmas.{exact_itself, same_equiv}
use Rattle.zerotrie.specs.dense.Rows.{Rows, placed, suffixes, IsInOrder}
use Rattle.zerotrie.specs.dense.Layout.{LaidRow, is_dense, laid, beside, dense_rows, under, primary_pairs}
use Rattle.zerotrie.specs.dense.Windows.{in_window, offset, outside}
use Rattle.zerotrie.proofs.TextLemmas.{V, same, either, Free, NoKey, no_value, from_none, first_once, value_at-under}
use Rattle.zerotrie.proofs.RowLemmas.{firsts, offs, others_at, AllFree, NoneNamed, none_named, no_offset, no_other, absent_number, absent_offset, absent_other}
use Rattle.zerotrie.proofs.BuildLemmas.{kept_ascends}

-- each key comes once; no key of some pairs is one of others
abbrev pub Once : Pairs → Type 0
Once [] = Unit {0}
Once (e ∷ pairs) = NoKey e.0 pairs × Once pairs

abbrev pub NoneIn : Pairs → Pairs → Type 0
NoneIn [] ys = Unit {0}
NoneIn (e ∷ xs) ys = NoKey e.0 ys × NoneIn xs ys

no_key_at : (pairs : Pairs) (key : List ℕ) (k : ℕ) → NoKey key pairs → k < length (map {B = List ℕ} (λ f. f.0) pairs) → get_or (map {B = List ℕ} (λ f. f.0) pairs) k key ≡ key → ⊥
no_key_at [] key k none h is = omega arith
no_key_at (e ∷ pairs) key zero none h is = let own = ap (λ t. same t key) is ∙ exact_itself key in let other = none.0 in absurd (cc)
no_key_at (e ∷ pairs) key (suc k) none h is = no_key_at pairs key k none.1 (omega arith) is

pub once_apart : (pairs : Pairs) → Once pairs → RepeatsKey pairs → ⊥
once_apart [] once repeats = repeats
once_apart (e ∷ pairs) once repeats = elim repeats [
  | inl c ↦ no_key_at pairs e.0 c.0 once.0 c.1 c.2
  | inr more ↦ once_apart pairs once.1 more
]

no_key_append : (key : List ℕ) (xs ys : Pairs) → NoKey key xs → NoKey key ys → NoKey key (xs ++ ys)
no_key_append key [] ys a b = b
no_key_append key (e ∷ xs) ys a b = (a.0, no_key_append key xs ys a.1 b)

none_append : (xs ys zs : Pairs) → NoneIn xs ys → NoneIn xs zs → NoneIn xs (ys ++ zs)
none_append [] ys zs a b = tt
none_append (e ∷ xs) ys zs a b = (no_key_append e.0 ys zs a.0 b.0, none_append xs ys zs a.1 b.1)

once_append : (xs ys : Pairs) → Once xs → Once ys → NoneIn xs ys → Once (xs ++ ys)
once_append [] ys a b none = b
once_append (e ∷ xs) ys a b none = (no_key_append e.0 xs ys a.0 none.0, once_append xs ys a.1 b none.1)

-- no two rows have one prefix
abbrev NamedOnce : Rows → Type 0
NamedOnce [] = Unit {0}
NamedOnce (row ∷ rows) = NoneNamed rows row.0 × NamedOnce rows

named_once : (rows : Rows) → IsInOrder rows → NamedOnce rows
named_once [] order = tt
named_once (row ∷ rows) order = (none_named 0 rows row.0 (first_once row.0 0 (placed 0 (map (λ r. r.0) rows)) order.1), named_once rows order.2)

-- the numbers
once_firsts : (k n : ℕ) (rows : Rows) → NamedOnce rows → Once (firsts k n rows)
once_firsts k n [] named = tt
once_firsts k n (row ∷ rows) named = elim (either (is_dense n row.1)) [
  | inl y ↦ rw y (from_none row.0 (firsts (k + 1) n rows) (absent_number (k + 1) n rows row.0 named.0), once_firsts (k + 1) n rows named.1)
  | inr f ↦ rw f (once_firsts k n rows named.1)
]

firsts_apart : (d k n : ℕ) (rows : Rows) (ys : Pairs) → ((p : List ℕ) → Free d p → NoKey p ys) → AllFree d rows → NoneIn (firsts k n rows) ys
firsts_apart d k n [] ys other free = tt
firsts_apart d k n (row ∷ rows) ys other free = elim (either (is_dense n row.1)) [
  | inl y ↦ rw y (other row.0 free.0, firsts_apart d (k + 1) n rows ys other free.1)
  | inr f ↦ rw f (firsts_apart d k n rows ys other free.1)
]

-- the offsets
once_offs : (d n : ℕ) (rows : Rows) → AllFree d rows → NamedOnce rows → Once (offs d n rows)
once_offs d n [] free named = tt
once_offs d n (row ∷ rows) free named = elim (either (is_dense n row.1)) [
  | inl y ↦ rw y (from_none (row.0 ++ d ∷ []) (offs d n rows) (absent_offset d n rows row.0 free.1 free.0 named.0), once_offs d n rows free.1 named.1)
  | inr f ↦ rw f (once_offs d n rows free.1 named.1)
]

and_right : (a b : Bool) → (a && not b) ≡ true → b ≡ false
and_right true false h = refl
and_right true true h = absurd (cc)
and_right false b h = absurd (cc)

not_some : (o : Option ℕ) → is_some o ≡ false → o ≡ None
not_some None h = refl
not_some (Some v) h = absurd (cc)

empty_inside : (n : ℕ) (row : Pairs) → is_dense n row ≡ true → V (outside row) [] ≡ None
empty_inside n row y = not_some (V (outside row) []) (and_right _ (is_some (V (outside row) [])) y)

other_row : (d : ℕ) (q p s : List ℕ) (es : Pairs) → Free d q → Free d p → same q p ≡ false → NoKey (p ++ (d ∷ s)) (under q d es)
other_row d q p s es free k other = from_none (p ++ (d ∷ s)) (under q d es) (value_at-under d q p s es free k ∙ ap (λ b. cond b (V es s) None) other)

offs_other_row : (d n : ℕ) (rows : Rows) (q : List ℕ) (es : Pairs) → AllFree d rows → Free d q → NoneNamed rows q → NoneIn (offs d n rows) (under q d es)
offs_other_row d n [] q es free k none = tt
offs_other_row d n (row ∷ rows) q es free k none = elim (either (is_dense n row.1)) [
  | inl y ↦ rw y (other_row d q row.0 [] es k free.0 ((same_equiv simple_ascii).symm q row.0 ∙ none.0), offs_other_row d n rows q es free.1 k none.1)
  | inr f ↦ rw f (offs_other_row d n rows q es free.1 k none.1)
]

offs_apart : (d n : ℕ) (rows : Rows) → AllFree d rows → NamedOnce rows → NoneIn (offs d n rows) (others_at d n rows)
offs_apart d n [] free named = tt
offs_apart d n (row ∷ rows) free named =
    let more : NoneIn (offs d n rows) (others_at d n (row ∷ rows)) =
    none_append (offs d n rows) (under row.0 d (beside (laid n row))) (others_at d n rows)
    (offs_other_row d n rows row.0 (beside (laid n row)) free.1 free.0 named.0) (offs_apart d n rows free.1 named.1) in
    elim (either (is_dense n row.1)) [
      | inl y ↦
          let own : V (beside (laid n row)) [] ≡ None = rw y (empty_inside n row.1 y) in
          let none : V (under row.0 d (beside (laid n row))) (row.0 ++ (d ∷ [])) ≡ None =
          value_at-under d row.0 row.0 [] (beside (laid n row)) free.0 free.0 ∙ ap (λ o. cond (same row.0 row.0) o None) own ∙ ap (λ b. cond b None None) (exact_itself row.0) in
          let first : NoKey (row.0 ++ d ∷ []) (others_at d n (row ∷ rows)) =
          no_key_append (row.0 ++ d ∷ []) (under row.0 d (beside (laid n row))) (others_at d n rows)
          (from_none (row.0 ++ d ∷ []) (under row.0 d (beside (laid n row))) none)
          (from_none (row.0 ++ d ∷ []) (others_at d n rows) (absent_other d n rows row.0 [] free.1 free.0 named.0)) in
          subst (λ (rs : List LaidRow). NoneIn (map (λ r. (r.prefix ++ d ∷ [], r.offset)) rs) (others_at d n (row ∷ rows)))
          (sym (ap (λ b. cond b (laid n row ∷ dense_rows (map (laid n) rows)) (dense_rows (map (laid n) rows))) y)) (first, more)
      | inr f ↦
          subst (λ (rs : List LaidRow). NoneIn (map (λ r. (r.prefix ++ d ∷ [], r.offset)) rs) (others_at d n (row ∷ rows)))
          (sym (ap (λ b. cond b (laid n row ∷ dense_rows (map (laid n) rows)) (dense_rows (map (laid n) rows))) f)) more
    ]

-- the values beside the matrix
once_under : (d : ℕ) (q : List ℕ) (es : Pairs) → Free d q → Ascends es → Once (under q d es)
once_under d q [] free ascends = tt
once_under d q (e ∷ es) free ascends =
    let once : V es e.0 ≡ None = no_value e.0 es (first_once e.0 e.1 es ascends) in (
      from_none (q ++ (d ∷ e.0)) (under q d es) (value_at-under d q q e.0 es free free ∙ ap (λ o. cond (same q q) o None) once ∙ ap (λ b. cond b None None) (exact_itself q)),
      once_under d q es free ascends.1,
    )

under_apart : (d n : ℕ) (q : List ℕ) (es : Pairs) (rows : Rows) → Free d q → AllFree d rows → NoneNamed rows q → NoneIn (under q d es) (others_at d n rows)
under_apart d n q [] rows free all none = tt
under_apart d n q (e ∷ es) rows free all none =
    (from_none (q ++ (d ∷ e.0)) (others_at d n rows) (absent_other d n rows q e.0 all free none), under_apart d n q es rows free all none)

beside_ascends : (n : ℕ) (row : List ℕ × Pairs) → Ascends row.1 → Ascends (beside (laid n row))
beside_ascends n row ascends = elim (either (is_dense n row.1)) [
  | inl y ↦ rw y (kept_ascends (λ v. not (in_window (offset row.1) v)) row.1 ascends)
  | inr f ↦ rw f ascends
]

once_others : (d n : ℕ) (rows : Rows) → AllFree d rows → NamedOnce rows → IsInOrder rows → Once (others_at d n rows)
once_others d n [] free named order = tt
once_others d n (row ∷ rows) free named order =
    once_append (under row.0 d (beside (laid n row))) (others_at d n rows) (once_under d row.0 (beside (laid n row)) free.0 (beside_ascends n row order.0))
    (once_others d n rows free.1 named.1 order.2) (under_apart d n row.0 (beside (laid n row)) rows free.0 free.1 named.0)

-- all three
pub primary_once : (d : ℕ) (rows : Rows) → AllFree d rows → IsInOrder rows → Once (primary_pairs d rows)
unfolding primary_pairs
primary_once d rows free order =
    let n : ℕ = length (suffixes rows) in
    let named = named_once rows order in
    let none : (p : List ℕ) → Free d p → NoKey p (offs d n rows ++ others_at d n rows) = λ p k.
    no_key_append p (offs d n rows) (others_at d n rows) (from_none p (offs d n rows) (no_offset d n rows p k)) (from_none p (others_at d n rows) (no_other d n rows p k)) in
    once_append (firsts 0 n rows) (offs d n rows ++ others_at d n rows) (once_firsts 0 n rows named)
    (once_append (offs d n rows) (others_at d n rows) (once_offs d n rows free named) (once_others d n rows free named order) (offs_apart d n rows free named))
    (firsts_apart d 0 n rows (offs d n rows ++ others_at d n rows) none free)
