-- The pairs that are chosen.
use Rattle.std.proofs.Common.{◌≡◌, ℕ, ◌≤◌, List, [], ◌∷◌, Bool, true, false, cond, not, length, refl, sym, ap, ◌∙◌, arith, Option, Some, None, Result, Ok, Err, IfOk, IfSome, IfNone, OnOk, OnErr}
use Rattle.std.specs.Prelude.{◌&&◌}
use Rattle.std.proofs.lemmas.List.Filters.{length-filter_both}
use Rattle.zerotrie_core.specs.Maps.{Pairs}
use Rattle.zerotrie_core.specs.declared.TrieKind.{TrieKind}
use Rattle.zerotrie_search.specs.Searches.{accepted}
use Rattle.zerotrie_queries.specs.Chosen.{is_chosen, is_kept, is_matched}
use Rattle.zerotrie_queries.specs.declared.question.Choice.{Choice}

-- those that are accepted are no more than all
pub few_accepted : (accepts : List ℕ → Bool) (pairs : Pairs) → length (accepted accepts pairs) ≤ length pairs
few_accepted accepts pairs = let both = length-filter_both (λ e. accepts e.0) (λ e. not (accepts e.0)) (λ e. refl) pairs in omega arith

-- what follows from the clauses of a result
pub if_none_weaker : {A E P Q : Type 0} (r : Result (Option A) E) → (P → Q) → IfOk r (λ key. IfNone key P) → IfOk r (λ key. IfNone key Q)
if_none_weaker (Ok None) f p = f p
if_none_weaker (Ok (Some k)) f p = tt
if_none_weaker (Err e) f p = tt

pub if_some_weaker : {A E : Type 0} {P Q : A → Type 0} (r : Result (Option A) E) → ((k : A) → P k → Q k) → IfOk r (λ key. IfSome key P) → IfOk r (λ key. IfSome key Q)
if_some_weaker (Ok None) f p = tt
if_some_weaker (Ok (Some k)) f p = f k p
if_some_weaker (Err e) f p = tt

pub if_ok_so : {A E : Type 0} {P Q R S : A → Type 0} (r : Result A E) → ((x : A) → P x → Q x → R x → S x) → IfOk r P → IfOk r Q → IfOk r R → IfOk r S
if_ok_so (Ok x) f p q r = f x p q r
if_ok_so (Err e) f p q r = tt

pub on_ok_so : {T E P Q : Type 0} (r : Result T E) → (P → Q) → OnOk r P → OnOk r Q
on_ok_so (Ok x) f p = f p
on_ok_so (Err e) f p = tt

pub on_err_so : {T E P Q : Type 0} (r : Result T E) → (P → Q) → OnErr r P → OnErr r Q
on_err_so (Ok x) f p = tt
on_err_so (Err e) f p = f p

-- keys that are accepted alike are picked alike
pub accepted_alike : (p q : List ℕ → Bool) → ((key : List ℕ) → p key ≡ q key) → (pairs : Pairs) → accepted p pairs ≡ accepted q pairs
accepted_alike p q same [] = refl
accepted_alike p q same (e ∷ pairs) = rw (same e.0) (ap (λ l. cond (q e.0) (e ∷ l) l) (accepted_alike p q same pairs))

-- of the pairs within bounds those are accepted that are accepted of all, if each accepted key is within
pub accepted_within : (p q : List ℕ → Bool) (pairs : Pairs) → ((key : List ℕ) → p key ≡ true → q key ≡ true) → accepted p (accepted q pairs) ≡ accepted p pairs
accepted_within p q [] h = refl
accepted_within p q (e ∷ pairs) h = go (p e.0) (q e.0) refl refl (accepted_within p q pairs h)
  where
    go : (a b : Bool) → p e.0 ≡ a → q e.0 ≡ b → accepted p (accepted q pairs) ≡ accepted p pairs → accepted p (cond b (e ∷ accepted q pairs) (accepted q pairs)) ≡ cond a (e ∷ accepted p pairs) (accepted p pairs)
    go true true is inside rest = rw is (ap (λ l. e ∷ l) rest)
    go false true is inside rest = rw is rest
    go true false is inside rest = absurd (let no : false ≡ true = sym inside ∙ h e.0 is in cc)
    go false false is inside rest = rest

and_true : (b : Bool) → (b && true) ≡ b
and_true true = refl
and_true false = refl

-- with all conditions
pub by_all : (kind : TrieKind) (c : Choice) (keeps accepts : List ℕ → Bool) → ((key : List ℕ) → keeps key ≡ is_kept kind c key) → ((key : List ℕ) → accepts key ≡ is_matched kind c.sought key)
    → (key : List ℕ) → (keeps key && accepts key) ≡ is_chosen kind c key
by_all kind c keeps accepts kept is key = ap (λ b. b && accepts key) (kept key) ∙ ap (λ b. is_kept kind c key && b) (is key)

-- without a word those are chosen that are kept
pub kept_alone : (kind : TrieKind) (c : Choice) → c.sought ≡ None → (key : List ℕ) → is_kept kind c key ≡ is_chosen kind c key
kept_alone kind c none key = sym (ap (λ o. is_kept kind c key && is_matched kind o key) none ∙ and_true (is_kept kind c key))
