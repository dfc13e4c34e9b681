-- What stands in front of a map, and bytes that are not ASCII.
use Rattle.std.proofs.Common.{◌≡◌, ℕ, ◌<◌, ◌≤◌, ◌⊎◌, List, [], ◌∷◌, refl, sym, ap, ◌∙◌, arith, inl, inr, map, Ordering, get_or, length, zero, suc, subst, take, drop}
use Rattle.std.specs.Prelude.{Any, All, Bool, true, false, nat_lt, Option, Some, None}
use Rattle.std.specs.Borrow.{Bor}
use Rattle.std.specs.List.{slice_get}
use Rattle.std.specs.BTreeMap.{BTreeMap}
use Rattle.std.specs.BTreeMap.Range.{IsLtBy}
use Rattle.std.specs.Ordering.{nat_cmp}
use Rattle.std.specs.Cmp.Lexicographic.{slice_cmp}
use Rattle.std.specs.Ordering.{is_eq, is_lt}
use Rattle.std.proofs.lemmas.Bool.{false≢true}
use Rattle.std.proofs.lemmas.Map.Text.{is_eq-slice_cmp}
use Rattle.zerotrie_c.specs.Entries.{entry_before, start_at}
use Rattle.zerotrie_c.specs.Keys.{keys_from}
use Rattle.zerotrie_core.specs.Maps.{FirstAbove, Pairs}
use Rattle.zerotrie.specs.dense.Rows.{Rows, placed, IsInOrder}
use Rattle.zerotrie.specs.dense.Views.{pairs_in, rows_in}
use Rattle.std.proofs.lemmas.List.Elements.{All-head}
use Rattle.std.specs.Str.{IsAscii}
use Rattle.std.specs.BTreeMap.{insert_entry}
use Rattle.std.specs.Map.{keys_of}
use Rattle.std.specs.Ordering.{match_ordering}
use Rattle.std.specs.declared.cmp.Ordering.TheVariants.{Less, Equal, Greater}

abbrev unwrapped : {A : Type 0} → (A → Type 0) → Option A → Type 0
unwrapped F None = ⊥
unwrapped F (Some x) = F x

pub none_some : {A : Type 0} (x : A) → None ≡ Some x → ⊥
none_some {A} x is = subst (λ o. unwrapped (λ y. A) o) (sym is) x

pub either : (b : Bool) → (b ≡ true) ⊎ (b ≡ false)
either true = inl refl
either false = inr refl

abbrev start_from : ℕ → List ℕ → ℕ → ℕ
start_from from ends zero = from
start_from from ends (suc n) = get_or ends n 0

high_or : (b : ℕ) → (128 ≤ b) ⊎ (b < 128)
high_or b = elim (either (nat_lt b 128)) [
  | inl y ↦ inr (grind arith)
  | inr n ↦ inl (grind arith)
]

low_more : (b : ℕ) (bs : List ℕ) → b < 128 → IsAscii bs → IsAscii (b ∷ bs)
low_more b bs small low zero = omega (arith, small)
low_more b bs small low (suc i) = low i

-- some byte is not ASCII, or all are
pub high_or_low : (bs : List ℕ) → Any (λ b. 128 ≤ b) bs ⊎ IsAscii bs
high_or_low [] = inr (λ i. omega arith)
high_or_low (b ∷ bs) = elim (high_or_low bs) [
  | inl any ↦ inl (suc any.0, any.1, omega (arith, any.2), any.3, any.4)
  | inr low ↦ elim (high_or b) [
    | inl high ↦ inl (0, b, omega arith, refl, high)
    | inr small ↦ inr (low_more b bs small low)
  ]
]

-- a key that is below the first of a row goes to its front
pub suffix_front : (es : List (Bor (List ℕ) × ℕ)) (k : Bor (List ℕ)) (v : ℕ) → FirstAbove k.now (pairs_in es)
    → insert_entry (λ a b. slice_cmp nat_cmp a.now b.now) es k v ≡ (k, v) ∷ es
suffix_front [] k v above = refl
suffix_front (e ∷ es) k v above = ap (λ o. match_ordering o ((k, v) ∷ e ∷ es) ((e.0, v) ∷ es) (e ∷ insert_entry (λ a b. slice_cmp nat_cmp a.now b.now) es k v)) above

-- and so does a row that is below the first of rows
pub row_front : (es : List (Bor (List ℕ) × BTreeMap (Bor (List ℕ)) ℕ)) (k : Bor (List ℕ)) (v : BTreeMap (Bor (List ℕ)) ℕ)
    → FirstAbove k.now (placed 0 (map {B = List ℕ} (λ row. row.0) (rows_in es)))
    → insert_entry (λ a b. slice_cmp nat_cmp a.now b.now) es k v ≡ (k, v) ∷ es
row_front [] k v above = refl
row_front (e ∷ es) k v above = ap (λ o. match_ordering o ((k, v) ∷ e ∷ es) ((e.0, v) ∷ es) (e ∷ insert_entry (λ a b. slice_cmp nat_cmp a.now b.now) es k v)) above

-- what is below all is below the first
pub first_of_all : (es : List (Bor (List ℕ) × BTreeMap (Bor (List ℕ)) ℕ)) (k : Bor (List ℕ)) → All (IsLtBy (λ a b. slice_cmp nat_cmp a.now b.now) k) (keys_of es)
    → FirstAbove k.now (placed 0 (map {B = List ℕ} (λ row. row.0) (rows_in es)))
first_of_all [] k all = tt
first_of_all (e ∷ es) k all = All-head (IsLtBy (λ a b. slice_cmp nat_cmp a.now b.now) k) e.0 (keys_of es) all

-- a text is below the first key
pub first_same : {A : Type 0} (F : A → Type 0) (x y : A) → Some x ≡ Some y → F y → F x
first_same F x y is h = subst (λ o. unwrapped F o) (sym is) h

less_of : (o : Ordering) → is_lt o ≡ true → o ≡ Less
less_of Less h = refl
less_of Equal h = absurd (false≢true h)
less_of Greater h = absurd (false≢true h)

pub first_below : (es : List (Bor (List ℕ) × ℕ)) (e : Bor (List ℕ) × ℕ) (s : List ℕ) → slice_get es 0 ≡ Some e → is_lt (slice_cmp nat_cmp s e.0.now) ≡ true → FirstAbove s (pairs_in es)
first_below [] e s is below = tt
first_below (d ∷ es) e s is below = first_same (λ x. slice_cmp nat_cmp s x.0.now ≡ Less) d e is (less_of _ below)

pub below_first : (es : List (Bor (List ℕ) × ℕ)) (e : Bor (List ℕ) × ℕ) (s : List ℕ) → slice_get es 0 ≡ Some e → FirstAbove s (pairs_in es) → is_lt (slice_cmp nat_cmp s e.0.now) ≡ true
below_first [] e s is above = absurd (none_some e is)
below_first (d ∷ es) e s is above = first_same (λ x. is_lt (slice_cmp nat_cmp s x.0.now) ≡ true) e d (sym is) (ap is_lt above)

-- a row under the prefix of an entry, and one under another
pub joined : (e : List ℕ × List ℕ × ℕ) (p : List ℕ) (pairs : Pairs) (rows : Rows) → slice_cmp nat_cmp e.0 p ≡ Equal
    → entry_before e ((p, pairs) ∷ rows) ≡ (p, (e.1, e.2) ∷ pairs) ∷ rows
joined e p pairs rows is = rw (sym (is_eq-slice_cmp e.0 p) ∙ ap is_eq is) refl

pub apart : (e : List ℕ × List ℕ × ℕ) (p : List ℕ) (pairs : Pairs) (rows : Rows) (o : Ordering) → slice_cmp nat_cmp e.0 p ≡ o → is_eq o ≡ false
    → entry_before e ((p, pairs) ∷ rows) ≡ (e.0, (e.1, e.2) ∷ []) ∷ (p, pairs) ∷ rows
apart e p pairs rows o is other = rw (sym (is_eq-slice_cmp e.0 p) ∙ ap is_eq is ∙ other) refl

-- an entry whose prefix is above that of the first row is not in order with it
pub out_of_order : (e : List ℕ × List ℕ × ℕ) (p : List ℕ) (pairs : Pairs) (rows : Rows) → slice_cmp nat_cmp e.0 p ≡ Greater
    → IsInOrder (entry_before e ((p, pairs) ∷ rows)) → ⊥
out_of_order e p pairs rows above order =
    let order = subst IsInOrder (apart e p pairs rows Greater above refl) order in
    false≢true (sym (ap is_lt above) ∙ ap is_lt order.1.0)

-- the key of a number
keys_at : (n from : ℕ) (bytes ends : List ℕ) → n < length ends
    → slice_get (keys_from from bytes ends) n ≡ Some (drop (start_from from ends n) (take (get_or ends n 0) bytes))
keys_at n from bytes [] some = absurd (omega arith)
keys_at zero from bytes (e ∷ ends) some = refl
keys_at (suc zero) from bytes (e ∷ []) some = absurd (omega arith)
keys_at (suc zero) from bytes (e ∷ f ∷ ends) some = refl
keys_at (suc (suc n)) from bytes (e ∷ ends) some = keys_at (suc n) e bytes ends (omega arith)

pub key_of_number : (n : ℕ) (bytes ends : List ℕ) → n < length ends → slice_get (keys_from 0 bytes ends) n ≡ Some (drop (start_at ends n) (take (get_or ends n 0) bytes))
key_of_number zero bytes ends some = keys_at zero 0 bytes ends some
key_of_number (suc n) bytes ends some = keys_at (suc n) 0 bytes ends some
