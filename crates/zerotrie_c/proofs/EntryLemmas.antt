-- Entries one after another, and why they are no rows.
use Rattle.std.proofs.Common.{◌≡◌, ℕ, ◌-◌, ◌<◌, ◌≤◌, ◌⊎◌, List, [], ◌∷◌, ◌++◌, refl, sym, ap, arith, inl, inr, get_or, length, zero, suc, subst, drop}
use Rattle.std.specs.Prelude.{Any, Some}
use Rattle.std.specs.List.{slice_get}
use Rattle.zerotrie_core.proofs.CallerLemmas.{exact_same}
use Rattle.zerotrie_core.specs.Kind.{simple_ascii}
use Rattle.zerotrie_core.specs.Maps.{same_key}
use Rattle.zerotrie.specs.dense.Rows.{Rows, keys, texts, IsInOrder}
use Rattle.zerotrie_c.specs.Entries.{Entries, entries_of, entry_before, rows_of, NoRows}
use Rattle.zerotrie_c.specs.Keys.{keys_from}
use Rattle.zerotrie_core.specs.declared.ZeroTrieBuildError.{ZeroTrieBuildError}
use Rattle.zerotrie_core.specs.declared.ZeroTrieBuildError.TheVariants.{NonAsciiError, CapacityExceeded, CouldNotSolvePerfectHash, MixedCase, IllegalDelimiter, DuplicateKey, Unsorted, BufferTooSmall, BufferTooLarge, StackExceeded, OutOfMemory}
use Rattle.zerotrie_c.proofs.FrontLemmas.{either, first_same, none_some}

pub length-keys_from : (from : ℕ) (bytes ends : List ℕ) → length (keys_from from bytes ends) ≡ length ends
length-keys_from from bytes [] = refl
length-keys_from from bytes (to ∷ ends) = ap (λ n. suc n) (length-keys_from to bytes ends)

-- the entry of a number, and those after it
next_entry : (n : ℕ) (P S : List (List ℕ)) (V : List ℕ) (p s : List ℕ) → slice_get P n ≡ Some p → slice_get S n ≡ Some s → n < length V
    → drop n (entries_of P S V) ≡ (p, s, get_or V n 0) ∷ drop (suc n) (entries_of P S V)
next_entry n [] S V p s ip is some = absurd (none_some p ip)
next_entry n (x ∷ P) [] V p s ip is some = absurd (none_some s is)
next_entry n (x ∷ P) (y ∷ S) [] p s ip is some = absurd (omega arith)
next_entry zero (x ∷ P) (y ∷ S) (v ∷ V) p s ip is some =
    first_same (λ z. (x, y, v) ∷ entries_of P S V ≡ (z, s, v) ∷ entries_of P S V) p x (sym ip)
    (first_same (λ z. (x, y, v) ∷ entries_of P S V ≡ (x, z, v) ∷ entries_of P S V) s y (sym is) refl)
next_entry (suc n) (x ∷ P) (y ∷ S) (v ∷ V) p s ip is some = next_entry n P S V p s ip is (omega arith)

-- the same for the number below this one
pub entry_below : (n : ℕ) (P S : List (List ℕ)) (V : List ℕ) (p s : List ℕ) → 0 < n → n ≤ length V → slice_get P (n - 1) ≡ Some p → slice_get S (n - 1) ≡ Some s
    → drop (n - 1) (entries_of P S V) ≡ (p, s, get_or V (n - 1) 0) ∷ drop n (entries_of P S V)
entry_below zero P S V p s some room ip is = absurd (omega arith)
entry_below (suc n) P S V p s some room ip is =
    let e : suc n - 1 ≡ n = omega arith in
    rw e (next_entry n P S V p s (rw e at ip) (rw e at is) (omega arith))

-- none is left after the shortest list
pub no_entries : (n : ℕ) (P S : List (List ℕ)) (V : List ℕ) → (n < length P → n < length S → n < length V → ⊥) → drop n (entries_of P S V) ≡ []
no_entries zero [] S V over = refl
no_entries zero (x ∷ P) [] V over = refl
no_entries zero (x ∷ P) (y ∷ S) [] over = refl
no_entries zero (x ∷ P) (y ∷ S) (v ∷ V) over = absurd (over (omega arith) (omega arith) (omega arith))
no_entries (suc n) [] S V over = refl
no_entries (suc n) (x ∷ P) [] V over = refl
no_entries (suc n) (x ∷ P) (y ∷ S) [] over = refl
no_entries (suc n) (x ∷ P) (y ∷ S) (v ∷ V) over = no_entries n P S V (λ p s v. over (omega arith) (omega arith) (omega arith))

pub any_here : {A : Type 0} (P : A → Type 0) (x : A) (xs : List A) → P x → Any P (x ∷ xs)
any_here P x xs h = (0, x, omega arith, refl, h)

pub any_there : {A : Type 0} (P : A → Type 0) (x : A) (xs : List A) → Any P xs → Any P (x ∷ xs)
any_there P x xs any = (suc any.0, any.1, omega (arith, any.2), any.3, any.4)

pub any_head : {A : Type 0} (P : A → Type 0) (x : A) (xs : List A) (k : ℕ) (y : A) → k < length (x ∷ xs) → get_or (x ∷ xs) k y ≡ y → P y → P x ⊎ Any P xs
any_head P x xs zero y some is h = inl (subst P (sym is) h)
any_head P x xs (suc k) y some is h = inr (k, y, omega arith, is, h)

any_second : {A : Type 0} (P : A → Type 0) (x y : A) (xs : List A) → Any P (x ∷ xs) → Any P (x ∷ y ∷ xs)
any_second P x y xs any = elim (any_head P x xs any.0 any.1 any.2 any.3 any.4) [
  | inl h ↦ any_here P x (y ∷ xs) h
  | inr more ↦ any_there P x (y ∷ xs) (any_there P y xs more)
]

abbrev High : List ℕ → Type 0
High text = Any (λ b. 128 ≤ b) text

-- why rows are none holds with an entry in front of them too
high_behind : (e : List ℕ × List ℕ × ℕ) (rows : Rows) → Any High (texts rows) → Any High (texts (entry_before e rows))
high_behind e [] any = absurd (omega (arith, any.2))
high_behind e (row ∷ rows) any = elim (either (same_key simple_ascii e.0 row.0)) [
  | inl y ↦ rw y (any_second High row.0 e.1 (keys row.1 ++ texts rows) any)
  | inr n ↦ rw n (any_there High e.0 (e.1 ∷ texts (row ∷ rows)) (any_there High e.1 (texts (row ∷ rows)) any))
]

-- a text of the entry that is not ASCII is one of the rows
pub high_prefix : (e : List ℕ × List ℕ × ℕ) (rows : Rows) → High e.0 → Any High (texts (entry_before e rows))
high_prefix e [] h = any_here High e.0 (e.1 ∷ []) h
high_prefix e (row ∷ rows) h = elim (either (same_key simple_ascii e.0 row.0)) [
  | inl y ↦ rw y (any_here High row.0 (e.1 ∷ (keys row.1 ++ texts rows)) (subst High (exact_same e.0 row.0 y) h))
  | inr n ↦ rw n (any_here High e.0 (e.1 ∷ texts (row ∷ rows)) h)
]

pub high_suffix : (e : List ℕ × List ℕ × ℕ) (rows : Rows) → High e.1 → Any High (texts (entry_before e rows))
high_suffix e [] h = any_there High e.0 (e.1 ∷ []) (any_here High e.1 [] h)
high_suffix e (row ∷ rows) h = elim (either (same_key simple_ascii e.0 row.0)) [
  | inl y ↦ rw y (any_there High row.0 (e.1 ∷ (keys row.1 ++ texts rows)) (any_here High e.1 (keys row.1 ++ texts rows) h))
  | inr n ↦ rw n (any_there High e.0 (e.1 ∷ texts (row ∷ rows)) (any_here High e.1 (texts (row ∷ rows)) h))
]

order_behind : (e : List ℕ × List ℕ × ℕ) (rows : Rows) → IsInOrder (entry_before e rows) → IsInOrder rows
order_behind e [] h = tt
order_behind e (row ∷ rows) h = elim (either (same_key simple_ascii e.0 row.0)) [
  | inl y ↦ let k = rw y at h in (k.0.1, k.1, k.2)
  | inr n ↦ let k = rw n at h in k.2
]

refused_before : (e : List ℕ × List ℕ × ℕ) (rows : Rows) (why : ZeroTrieBuildError) → NoRows rows why → NoRows (entry_before e rows) why
refused_before e rows NonAsciiError h = high_behind e rows h
refused_before e rows CapacityExceeded h = h
refused_before e rows CouldNotSolvePerfectHash h = h
refused_before e rows MixedCase h = h
refused_before e rows IllegalDelimiter h = h
refused_before e rows DuplicateKey h = h
refused_before e rows Unsorted h = λ order. h (order_behind e rows order)
refused_before e rows BufferTooSmall h = h
refused_before e rows (BufferTooLarge needed) h = h
refused_before e rows StackExceeded h = h
refused_before e rows OutOfMemory h = tt

-- and so with all that stand in front
pub refused_all : (n : ℕ) (entries : Entries) (why : ZeroTrieBuildError) → NoRows (rows_of (drop n entries)) why → NoRows (rows_of entries) why
refused_all zero entries why h = h
refused_all (suc n) [] why h = h
refused_all (suc n) (e ∷ entries) why h = refused_before e (rows_of entries) why (refused_all n entries why h)
