-- Tables that a cache holds.
use Rattle.std.proofs.Common.{◌≡◌, ℕ, List, [], ◌∷◌, Vec, Ordering, Less, Equal, Greater, refl, ap, ◌∙◌, sym, subst, Option, Some, None, option_map, is_some, cond, Bool, true, false, IsSome, Result, Ok, Err}
use Rattle.std.specs.Prelude.{MatchOption, IfNone, OnOk}
use Rattle.std.specs.Ordering.{nat_cmp, match_ordering, is_eq}
use Rattle.std.specs.Cmp.Lexicographic.{slice_cmp}
use Rattle.std.specs.FinMap.{slice_cmp-IsAntisymmetric, nat_cmp-IsAntisymmetric}
use Rattle.std.specs.Map.{lookup}
use Rattle.std.specs.BTreeMap.{insert_entry, is_at}
use Rattle.std.proofs.lemmas.Cmp.{tied_itself, nat_list_cmp_total}
use Rattle.zerotrie_base.specs.Hashes.{IsPerfectTable}
use Rattle.zerotrie_base.specs.Caches.{Tables, find, put, AllPerfect}
use Rattle.zerotrie_base.specs.byte_phf.Held.{tables_of}

-- In a map of vectors of any allocator.
module _ {A : Type 0} where
  option_map-cond : (b : Bool) (t : Vec ℕ A) (rest : Option (Vec ℕ A)) → option_map (λ x. x.items) (cond b (Some t) rest) ≡ cond b (Some t.items) (option_map (λ x. x.items) rest)
  option_map-cond true t rest = refl
  option_map-cond false t rest = refl

  -- a look-up in the entries is one among the tables
  pub find_lookup : (q : List ℕ) (es : List (Vec ℕ A × Vec ℕ A)) → option_map (λ x. x.items) (lookup (is_at (λ k. slice_cmp nat_cmp q k.items)) es) ≡ find q (tables_of es)
  find_lookup q [] = refl
  find_lookup q (e ∷ es) = option_map-cond (is_eq (slice_cmp nat_cmp q e.0.items)) e.1 _ ∙ rw (find_lookup q es)

  tables_of-match_ordering : (o : Ordering) (a b c : List (Vec ℕ A × Vec ℕ A)) → tables_of (match_ordering o a b c) ≡ match_ordering o (tables_of a) (tables_of b) (tables_of c)
  tables_of-match_ordering Less a b c = refl
  tables_of-match_ordering Equal a b c = refl
  tables_of-match_ordering Greater a b c = refl

  pub tables_of-insert_entry : (es : List (Vec ℕ A × Vec ℕ A)) (k v : Vec ℕ A) → tables_of (insert_entry (λ x y. slice_cmp nat_cmp x.items y.items) es k v) ≡ put k.items v.items (tables_of es)
  tables_of-insert_entry [] k v = refl
  tables_of-insert_entry (e ∷ es) k v = tables_of-match_ordering (slice_cmp nat_cmp k.items e.0.items) _ _ _ ∙ rw (tables_of-insert_entry es k v)

  -- whether a table is there does not depend on how it is seen
  pub is_some_seen : (r : Option (Vec ℕ A)) → is_some r ≡ is_some (option_map (λ x. x.items) r)
  is_some_seen None = refl
  is_some_seen (Some t) = refl

same : (k : List ℕ) → is_eq (slice_cmp nat_cmp k k) ≡ true
same k = ap is_eq (tied_itself nat_list_cmp_total k)

find-put_step : (k v : List ℕ) (o : Ordering) (p : List ℕ × List ℕ) (ps rest : Tables) → slice_cmp nat_cmp k p.0 ≡ o → find k rest ≡ Some v → find k (match_ordering o ((k, v) ∷ p ∷ ps) ((p.0, v) ∷ ps) (p ∷ rest)) ≡ Some v
find-put_step k v Less p ps rest e h = rw (same k) refl
find-put_step k v Equal p ps rest e h = ap (λ o. cond (is_eq o) (Some v) (find k ps)) e
find-put_step k v Greater p ps rest e h = ap (λ o. cond (is_eq o) (Some p.1) (find k rest)) e ∙ h

-- what was put is found
pub find-put : (k v : List ℕ) (ps : Tables) → find k (put k v ps) ≡ Some v
find-put k v [] = rw (same k) refl
find-put k v (p ∷ ps) = find-put_step k v (slice_cmp nat_cmp k p.0) p ps (put k v ps) refl (find-put k v ps)

pub there_after : {A E : Type 0} (k : List ℕ) (before after : Tables) (r : Result A E) → OnOk r ((table : List ℕ) × (after ≡ put k table before)) → OnOk r (IsSome (find k after))
there_after k before after (Ok v) h = ap (λ ts. is_some (find k ts)) h.1 ∙ ap is_some (find-put k h.0 before)
there_after k before after (Err e) h = tt

-- tables that are perfect

tied : (k q : List ℕ) → slice_cmp nat_cmp k q ≡ Equal → k ≡ q
tied k q e = slice_cmp-IsAntisymmetric nat_cmp-IsAntisymmetric k q e

perfect_at : (k v : List ℕ) (p : List ℕ × List ℕ) (ps : Tables) (o : Ordering) → slice_cmp nat_cmp k p.0 ≡ o → AllPerfect (p ∷ ps) → (find k ps ≡ Some v → IsPerfectTable k v) → cond (is_eq o) (Some p.1) (find k ps) ≡ Some v → IsPerfectTable k v
perfect_at k v p ps Less e a rec h = rec h
perfect_at k v p ps Equal e a rec h = let w : p.1 ≡ v = cc in subst (IsPerfectTable k) w (subst (λ q. IsPerfectTable q p.1) (sym (tied k p.0 e)) a.0)
perfect_at k v p ps Greater e a rec h = rec h

no_table : (v : List ℕ) → None ≡ Some v → ⊥
no_table v e = absurd (cc)

pub perfect_found : (k v : List ℕ) (ps : Tables) → AllPerfect ps → find k ps ≡ Some v → IsPerfectTable k v
perfect_found k v [] a h = absurd (no_table v h)
perfect_found k v (p ∷ ps) a h = perfect_at k v p ps (slice_cmp nat_cmp k p.0) refl a (perfect_found k v ps a.1) h

perfect-put_step : (k v : List ℕ) (o : Ordering) (p : List ℕ × List ℕ) (ps rest : Tables) → slice_cmp nat_cmp k p.0 ≡ o → AllPerfect (p ∷ ps) → IsPerfectTable k v → AllPerfect rest → AllPerfect (match_ordering o ((k, v) ∷ p ∷ ps) ((p.0, v) ∷ ps) (p ∷ rest))
perfect-put_step k v Less p ps rest e a h r = (h, a)
perfect-put_step k v Equal p ps rest e a h r = (subst (λ q. IsPerfectTable q v) (tied k p.0 e) h, a.1)
perfect-put_step k v Greater p ps rest e a h r = (a.0, r)

pub perfect-put : (k v : List ℕ) (ps : Tables) → AllPerfect ps → IsPerfectTable k v → AllPerfect (put k v ps)
perfect-put k v [] a h = (h, tt)
perfect-put k v (p ∷ ps) a h = perfect-put_step k v (slice_cmp nat_cmp k p.0) p ps (put k v ps) refl a h (perfect-put k v ps a.1 h)

-- what a call that answered the table t leaves
left_by : (before after : Tables) (keys t : List ℕ) (o : Option (List ℕ)) → find keys before ≡ o → (IsSome o → after ≡ before) → IfNone o ((table : List ℕ) × (after ≡ put keys table before)) → find keys after ≡ Some t → MatchOption o (after ≡ put keys t before) (λ table. (after ≡ before) × (t ≡ table))
left_by before after keys t None e held new h =
    let is : new.0 ≡ t = (let k : Some new.0 ≡ Some t = sym (find-put keys new.0 before) ∙ ap (find keys) (sym new.1) ∙ h in cc) in
    new.1 ∙ ap (λ v. put keys v before) is
left_by before after keys t (Some table) e held new h =
    let kept : after ≡ before = held refl in
    (kept, let k : Some t ≡ Some table = sym h ∙ ap (find keys) kept ∙ e in cc)

pub left : (before after : Tables) (keys t : List ℕ) → (IsSome (find keys before) → after ≡ before) → IfNone (find keys before) ((table : List ℕ) × (after ≡ put keys table before)) → find keys after ≡ Some t → MatchOption (find keys before) (after ≡ put keys t before) (λ table. (after ≡ before) × (t ≡ table))
left before after keys t held new h = left_by before after keys t (find keys before) refl held new h
