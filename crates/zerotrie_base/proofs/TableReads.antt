-- What perfect tables answer.
use Rattle.std.proofs.Common.{◌≡◌, ℕ, zero, suc, ◌+◌, ◌/◌, ◌%◌, ◌<◌, List, ◌∷◌, ◌++◌, length, refl, sym, ◌∙◌, ap, subst, arith, Bool, true, false, cond, eq-eqb, length-append, Some, None}
use Rattle.std.specs.Prelude.{◌↔◌, nat_lt, slice_index, ◌==◌}
use Rattle.std.proofs.lemmas.Bool.{eqb-true}
use Rattle.std.proofs.lemmas.List.{get_or_append_left, get_or-append-add}
use Rattle.zerotrie_base.specs.Hashes.{f1, f2, place_of, IsPerfect, number_of, number_behind}
use Rattle.zerotrie_base.proofs.HashLemmas.{f1_below, f2_below}

some_chosen : (b : Bool) (place i : ℕ) → cond b (Some place) None ≡ Some i → (b ≡ true) × (place ≡ i)
some_chosen true place i e = (refl, cc)
some_chosen false place i e = absurd (cc)

-- the answer, with the q and the key read from their own parts
reads_at : (p b n : ℕ) (qs keys : List ℕ) → length qs ≡ n → length keys ≡ n → b < 256 → 0 < n → number_behind p n (qs ++ keys) b ≡ cond (slice_index keys (place_of p qs (n % 256) b) == b) (Some (place_of p qs (n % 256) b)) None
reads_at p b n qs keys hq hk hb hn =
    let bucket : f1 b p (n % 256) < length qs = (let l = f1_below b p (n % 256) n (λ e. omega arith) (omega arith) in omega arith) in
    let q : slice_index (qs ++ keys) (f1 b p (n % 256)) ≡ slice_index qs (f1 b p (n % 256)) = get_or_append_left qs keys 0 (f1 b p (n % 256)) bucket in
    let place : place_of p (qs ++ keys) (n % 256) b ≡ place_of p qs (n % 256) b = ap (λ v. f2 b v (n % 256)) q in
    let key : (v : ℕ) → slice_index (qs ++ keys) (n + v) ≡ slice_index keys v = λ v. ap (λ k. slice_index (qs ++ keys) (k + v)) (sym hq) ∙ get_or-append-add qs keys v 0 in
    let some : nat_lt 0 n ≡ true = grind arith in
    rw some (ap (λ v. cond (slice_index (qs ++ keys) (n + v) == b) (Some v) None) place ∙ ap (λ k. cond (k == b) (Some (place_of p qs (n % 256) b)) None) (key (place_of p qs (n % 256) b)))

no_more : (A : Type 0) (x : A) → None ≡ Some x → ⊥
no_more A x e = absurd (cc)

reads_with : (p b n : ℕ) (qs keys : List ℕ) → n ≡ length keys → IsPerfect p qs keys → b < 256 → (i : ℕ) → (number_behind p n (qs ++ keys) b ≡ Some i) ↔ ((i < length keys) × (slice_index keys i ≡ b))
reads_with p b zero qs keys hn h hb i = (λ e. absurd (no_more ℕ i e), λ r. absurd (let l = r.0 in omega arith))
reads_with p b (suc m) qs keys hn h hb i =
    let n = suc m in
    let place = place_of p qs (n % 256) b in
    let e : number_behind p n (qs ++ keys) b ≡ cond (slice_index keys place == b) (Some place) None = reads_at p b n qs keys (h.a_q_each ∙ sym hn) (sym hn) hb (omega arith) in
    let below : place < n = f2_below b (slice_index qs (f1 b p (n % 256))) (n % 256) n (λ z. omega arith) (omega arith) in (
      λ f. let r = some_chosen (slice_index keys place == b) place i (sym e ∙ f) in
          ((let s = r.1 in omega arith), subst (λ v. slice_index keys v ≡ b) r.1 (eqb-true (slice_index keys place) b r.0)),
      λ r. let at : place ≡ i = ap (place_of p qs (n % 256)) (sym r.1) ∙ ap (λ c. place_of p qs (c % 256) (slice_index keys i)) hn ∙ h.places i r.0 in
          let there : (slice_index keys place == b) ≡ true = eq-eqb (slice_index keys place) b (ap (slice_index keys) at ∙ r.1) in
          e ∙ ap (λ t. cond t (Some place) None) there ∙ ap Some at,
    )

pub reads_keys : (p b : ℕ) (qs keys : List ℕ) → IsPerfect p qs keys → b < 256 → (i : ℕ) → (number_of (p ∷ (qs ++ keys)) b ≡ Some i) ↔ ((i < length keys) × (slice_index keys i ≡ b))
reads_keys p b qs keys h hb i =
    let count : length (qs ++ keys) / 2 ≡ length keys = (let s = h.a_q_each in omega (arith, length-append qs keys)) in
    reads_with p b (length (qs ++ keys) / 2) qs keys count h hb i
