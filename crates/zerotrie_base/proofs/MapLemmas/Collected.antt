-- The map of listed pairs, put in one after another.
use Rattle.std.proofs.Common.{◌≡◌, ℕ, List, [], ◌∷◌, length, refl, sym, ◌∙◌, ap, subst, arith, zero, suc, Bool, true, false, cond, Option, Some, None, Ordering, Less, Equal, Greater}
use Rattle.std.specs.FinMap.{entries, insert, get, put, find, entries-insert, get-insert, get-empty, get-from_entries, same_map, slice_cmp-IsAntisymmetric, nat_cmp-IsAntisymmetric, len, len-entries, len-empty, len-insert}
use Rattle.std.specs.Ordering.{nat_cmp, eq_by_cmp, is_eq}
use Rattle.std.specs.Cmp.Lexicographic.{slice_cmp, nat_list_cmp_total}
use Rattle.std.specs.List.{AllByRecursion}
use Rattle.std.proofs.lemmas.List.{nil_from_length}
use Rattle.std.specs.Str.{IsUtf8, IsAscii}
use Rattle.std.proofs.lemmas.Str.{IsUtf8-from_ascii}
use Rattle.zerotrie_base.specs.Kind.{Kind}
use Rattle.zerotrie_base.specs.Kind as kinds
use Rattle.zerotrie_base.specs.Maps.{Pairs, Map, map_of, same_key}
use Rattle.zerotrie_base.specs.Texts.{Lists, Means}
use Rattle.zerotrie_base.proofs.MapLemmas.Kinds.{edge_limit_is}
use Rattle.zerotrie_base.proofs.CanonicalLemmas.Fitting.{KeyBelow, KeysBelow, keys_lists}
use Rattle.zerotrie_base.proofs.MapLemmas.Cases.{OtherKey, Apart, lists_apart, same_equiv}

-- the pairs put into the entries of a map, one after another
abbrev pub put_all : Pairs → Pairs → Pairs
put_all [] es = es
put_all (e ∷ pairs) es = put_all pairs (put (slice_cmp nat_cmp) e.0 e.1 es)

abbrev insert_all : Pairs → Map → Map
insert_all [] m = m
insert_all (e ∷ pairs) m = insert_all pairs (insert m e.0 e.1)

put_all-entries : (pairs : Pairs) (m : Map) → put_all pairs (entries m) ≡ entries (insert_all pairs m)
put_all-entries [] m = refl
put_all-entries (e ∷ pairs) m = ap (put_all pairs) (sym (entries-insert nat_list_cmp_total m e.0 e.1)) ∙ put_all-entries pairs (insert m e.0 e.1)

-- the first answer, if there is one
abbrev first_of : Option ℕ → Option ℕ → Option ℕ
first_of None y = y
first_of (Some v) y = Some v

is_equal : (o : Ordering) → is_eq o ≡ true → o ≡ Equal
is_equal Less e = absurd (cc)
is_equal Equal e = refl
is_equal Greater e = absurd (cc)

tied_same : (p q : List ℕ) → eq_by_cmp (slice_cmp nat_cmp) p q ≡ true → p ≡ q
tied_same p q e = slice_cmp-IsAntisymmetric nat_cmp-IsAntisymmetric p q (is_equal (slice_cmp nat_cmp p q) e)

not_true : (b : Bool) → (b ≡ true → ⊥) → b ≡ false
not_true true h = absurd (h refl)
not_true false h = refl

-- keys that are two to the kind are two in the order of the map
two_keys : (kind : Kind) (p q : List ℕ) → same_key kind p q ≡ false → eq_by_cmp (slice_cmp nat_cmp) p q ≡ false
two_keys kind p q h = not_true (eq_by_cmp (slice_cmp nat_cmp) p q) (λ e.
    let same : same_key kind p q ≡ true = subst (λ k. same_key kind p k ≡ true) (tied_same p q e) ((same_equiv kind).refl p) in
    absurd (cc))

absent : (kind : Kind) (key : List ℕ) (pairs : Pairs) → AllByRecursion (OtherKey kind key) pairs → find (slice_cmp nat_cmp) key pairs ≡ None
absent kind key [] h = refl
absent kind key (f ∷ pairs) h = rw (two_keys kind key f.0 h.0) (absent kind key pairs h.1)

either_first : (tied : Bool) (v : ℕ) (x y : Option ℕ) → (tied ≡ true → x ≡ None) → first_of x (cond tied (Some v) y) ≡ first_of (cond tied (Some v) x) y
either_first true v x y none = ap (λ z. first_of z (Some v)) (none refl)
either_first false v x y none = refl

get-insert_all : (kind : Kind) (pairs : Pairs) (m : Map) (q : List ℕ) → Apart kind pairs → get (insert_all pairs m) q ≡ first_of (find (slice_cmp nat_cmp) q pairs) (get m q)
get-insert_all kind [] m q apart = refl
get-insert_all kind (e ∷ pairs) m q apart =
    get-insert_all kind pairs (insert m e.0 e.1) q apart.1
    ∙ ap (first_of (find (slice_cmp nat_cmp) q pairs)) (get-insert nat_list_cmp_total m e.0 e.1 q)
    ∙ either_first (eq_by_cmp (slice_cmp nat_cmp) q e.0) e.1 (find (slice_cmp nat_cmp) q pairs) (get m q)
    (λ tied. ap (λ k. find (slice_cmp nat_cmp) k pairs) (tied_same q e.0 tied) ∙ absent kind e.0 pairs apart.0)

first_alone : (x y : Option ℕ) → y ≡ None → first_of x y ≡ x
first_alone None y e = e
first_alone (Some v) y e = refl

-- the pairs that a text lists, put into no entries one after another, are the entries of their map
pub listed_entries : {kind : Kind} {bytes : List ℕ} {pairs : Pairs} → Lists kind bytes pairs → put_all pairs [] ≡ entries (map_of pairs)
listed_entries {kind = kind} {pairs = pairs} text =
    let none : entries (map_of []) ≡ [] = nil_from_length (entries (map_of [])) (sym (len-entries (map_of [])) ∙ len-empty (slice_cmp nat_cmp) ℕ) in
    let same : insert_all pairs (map_of []) ≡ map_of pairs =
    same_map nat_list_cmp_total (slice_cmp-IsAntisymmetric nat_cmp-IsAntisymmetric) (insert_all pairs (map_of [])) (map_of pairs) (λ q.
    get-insert_all kind pairs (map_of []) q (lists_apart text)
    ∙ first_alone (find (slice_cmp nat_cmp) q pairs) (get (map_of []) q) (get-empty (slice_cmp nat_cmp) q)
    ∙ sym (get-from_entries nat_list_cmp_total pairs q)) in
    ap (put_all pairs) (sym none) ∙ put_all-entries pairs (map_of []) ∙ ap entries same

-- a map of pairs whose keys are apart has as many
apart_len : (kind : Kind) (pairs : Pairs) → Apart kind pairs → len (map_of pairs) ≡ length pairs
apart_len kind [] apart = len-empty (slice_cmp nat_cmp) ℕ
apart_len kind (e ∷ pairs) apart =
    let none : get (map_of pairs) e.0 ≡ None = get-from_entries nat_list_cmp_total pairs e.0 ∙ absent kind e.0 pairs apart.0 in
    len-insert nat_list_cmp_total (map_of pairs) e.0 e.1 ∙ rw none (omega (arith, apart_len kind pairs apart.1))

-- the map that bytes mean has as many keys as a text lists pairs
pub meant_len : {kind : Kind} {bytes : List ℕ} {m : Map} (means : Means kind bytes m) → len m ≡ length means.pairs
meant_len {kind = kind} means = ap len means.is ∙ apart_len kind means.pairs (lists_apart means.lists)

-- and those of the map that the bytes mean
pub meant_entries : {kind : Kind} {bytes : List ℕ} {m : Map} (means : Means kind bytes m) → put_all means.pairs [] ≡ entries m
meant_entries means = listed_entries means.lists ∙ ap entries (sym means.is)

key_ascii : (key : List ℕ) → KeyBelow 128 key → IsAscii key
key_ascii [] h i = omega arith
key_ascii (b ∷ key) h zero = h.0
key_ascii (b ∷ key) h (suc i) = key_ascii key h.1 i

-- the keys of a text over ASCII keys are text
pub listed_texts : {kind : Kind} {bytes : List ℕ} {pairs : Pairs} → kinds.IsAscii kind → Lists kind bytes pairs → AllByRecursion (λ e. IsUtf8 e.0) pairs
listed_texts {kind = kind} {pairs = pairs} ascii text = texts pairs (subst (λ n. KeysBelow n pairs) (edge_limit_is kind ascii) (keys_lists text))
  where
    texts : (pairs : Pairs) → KeysBelow 128 pairs → AllByRecursion (λ e. IsUtf8 e.0) pairs
    texts [] h = tt
    texts (e ∷ pairs) h = (IsUtf8-from_ascii e.0 (key_ascii e.0 h.0), texts pairs h.1)
