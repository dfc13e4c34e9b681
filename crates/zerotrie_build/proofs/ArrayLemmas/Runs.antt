-- Keys that lead after a front, and how many siblings wait beside it.
use Rattle.std.proofs.Common.{◌≡◌, ℕ, zero, suc, ◌+◌, ◌<◌, ◌≤◌, List, [], ◌∷◌, ◌++◌, length, refl, sym, ◌∙◌, ap, subst, arith, take, get_or, Bool, true, false, eqb}
use Rattle.std.specs.Prelude.{◌||◌}
use Rattle.std.proofs.lemmas.Bool.{eq-eqb}
use Rattle.zerotrie_base.specs.Kind.{Kind}
use Rattle.zerotrie_base.specs.Maps.{Pairs, with_front, with_run, begins_some, edges, residual, behind_all}
use Rattle.zerotrie_base.specs.Stack.{stack_of}
use Rattle.zerotrie_base.proofs.CallerLemmas.{residual-append, behind_all-nil, begins_some-append, begins_some-front, begins_behind, some_pair, member, member-edges, above, stack_behind}
use Rattle.zerotrie_build.specs.array.Growing.{SomeBegins, AreAmong}
use Rattle.zerotrie_build.proofs.Runs.{with_run-push, take_one_more, behind_all-run}

pub with_run-append : (run : List ℕ) (xs ys : Pairs) → with_run run (xs ++ ys) ≡ with_run run xs ++ with_run run ys
with_run-append run [] ys = refl
with_run-append run (e ∷ xs) ys = ap (λ x. (run ++ e.0, e.1) ∷ x) (with_run-append run xs ys)

pub behind_all-append : (front : List ℕ) (xs ys : Pairs) → behind_all front (xs ++ ys) ≡ behind_all front xs ++ behind_all front ys
behind_all-append [] xs ys = refl
behind_all-append (b ∷ front) xs ys = ap (behind_all front) (residual-append b xs ys) ∙ behind_all-append front (residual b xs) (residual b ys)

-- what is under one byte more
pub run_step : (key : List ℕ) (d : ℕ) (pairs : Pairs) → d < length key → with_run (take (suc d) key) pairs ≡ with_run (take d key) (with_front (get_or key d 0) pairs)
run_step key d pairs h = ap (λ run. with_run run pairs) (take_one_more key d h) ∙ with_run-push (take d key) (get_or key d 0) pairs

or_left : (x y : Bool) → x ≡ true → (x || y) ≡ true
or_left true y e = refl
or_left false y e = absurd (cc)

or_right : (x y : Bool) → y ≡ true → (x || y) ≡ true
or_right true y e = refl
or_right false y e = e

-- pairs are among them with others after or in front
pub among_left : (xs ys : Pairs) → AreAmong xs (xs ++ ys)
among_left xs ys front b h =
    ap (λ p. begins_some p b) (behind_all-append front xs ys) ∙ begins_some-append (behind_all front xs) (behind_all front ys) b
    ∙ or_left (begins_some (behind_all front xs) b) (begins_some (behind_all front ys) b) h

pub among_right : (xs ys : Pairs) → AreAmong ys (xs ++ ys)
among_right xs ys front b h =
    ap (λ p. begins_some p b) (behind_all-append front xs ys) ∙ begins_some-append (behind_all front xs) (behind_all front ys) b
    ∙ or_right (begins_some (behind_all front xs) b) (begins_some (behind_all front ys) b) h

-- a run with a byte after it leads there
pub leads_run : (run : List ℕ) (b : ℕ) (pairs : Pairs) → (pairs ≡ [] → ⊥) → SomeBegins (with_run (run ++ b ∷ []) pairs) run b
leads_run run b pairs some =
    ap (λ p. begins_some p b) (ap (behind_all run) (with_run-push run b pairs) ∙ behind_all-run run (with_front b pairs))
    ∙ begins_some-front b b pairs some ∙ eq-eqb b b refl

-- a key leads along itself
pub leads_key : (key : List ℕ) (d v : ℕ) (pairs : Pairs) → d < length key → SomeBegins ((key, v) ∷ pairs) (take d key) (get_or key d 0)
leads_key key d v pairs within = among_left ((key, v) ∷ []) pairs (take d key) (get_or key d 0) (alone key d within)
  where
    here : (b c : ℕ) (k : List ℕ) → c ≡ b → residual b ((c ∷ k, v) ∷ []) ≡ (k, v) ∷ []
    here b c k e = rw (eq-eqb c b e) refl

    alone : (key : List ℕ) (d : ℕ) → d < length key → SomeBegins ((key, v) ∷ []) (take d key) (get_or key d 0)
    alone [] d h = absurd (let g : d < 0 = h in omega arith)
    alone (x ∷ key) zero h = or_left (eqb x x) false (eq-eqb x x refl)
    alone (x ∷ key) (suc d) h = subst (λ p. begins_some (behind_all (take d key) p) (get_or key d 0) ≡ true) (sym (here x x key refl)) (alone key d (let g : suc d < suc (length key) = h in omega arith))

-- to where some key leads there is an edge
pub leads_edge : (pairs : Pairs) (front : List ℕ) (b : ℕ) → b < 256 → SomeBegins pairs front b → member b (edges (behind_all front pairs)) ≡ true
leads_edge pairs front b low h = member-edges (behind_all front pairs) b low ∙ h

-- how many edges lie beside the path, above it to the kind
abbrev pub beside : Kind → List ℕ → Pairs → ℕ
beside kind [] pairs = 0
beside kind (b ∷ front) pairs = above kind b (edges pairs) + beside kind front (residual b pairs)

pub beside_more : (kind : Kind) (key : List ℕ) (d : ℕ) (pairs : Pairs) → d < length key → beside kind (take (suc d) key) pairs ≡ beside kind (take d key) pairs + above kind (get_or key d 0) (edges (behind_all (take d key) pairs))
beside_more kind [] d pairs h = absurd (let g : d < 0 = h in omega arith)
beside_more kind (b ∷ key) zero pairs h = omega arith
beside_more kind (b ∷ key) (suc d) pairs h = let r = beside_more kind key d (residual b pairs) (let g : suc d < suc (length key) = h in omega arith) in omega arith

pub beside_within : (kind : Kind) (key : List ℕ) (d e : ℕ) (pairs : Pairs) → d ≤ e → beside kind (take d key) pairs ≤ beside kind (take e key) pairs
beside_within kind [] zero zero pairs h = omega arith
beside_within kind [] zero (suc e) pairs h = omega arith
beside_within kind [] (suc d) zero pairs h = absurd (omega arith)
beside_within kind [] (suc d) (suc e) pairs h = omega arith
beside_within kind (b ∷ key) zero zero pairs h = omega arith
beside_within kind (b ∷ key) zero (suc e) pairs h = omega arith
beside_within kind (b ∷ key) (suc d) zero pairs h = absurd (omega arith)
beside_within kind (b ∷ key) (suc d) (suc e) pairs h = let r = beside_within kind key d e (residual b pairs) (omega arith) in omega arith

none_leads : (front : List ℕ) (b : ℕ) → SomeBegins [] front b → ⊥
none_leads front b h = let e = ap (λ p. begins_some p b) (behind_all-nil front) in let z : false ≡ true = sym e ∙ h in cc

begins_at : (pairs : Pairs) (b : ℕ) (front : List ℕ) (c : ℕ) → SomeBegins (residual b pairs) front c → begins_some pairs b ≡ true
begins_at pairs b front c h = begins_behind pairs b ∙ some (residual b pairs) h
  where
    some : (p : Pairs) → SomeBegins p front c → some_pair p ≡ true
    some [] h = absurd (none_leads front c h)
    some (e ∷ p) h = refl

-- what is needed after a front while the edges beside it wait
pub need_behind : (kind : Kind) (front : List ℕ) (c : ℕ) (pairs : Pairs) → ((i d : ℕ) → i < length front → get_or front i d < 128) → SomeBegins pairs front c
    → beside kind front pairs + stack_of kind (behind_all front pairs) ≤ stack_of kind pairs
need_behind kind [] c pairs low h = omega arith
need_behind kind (b ∷ front) c pairs low h =
    let first : b < 128 = low 0 0 (omega arith) in
    let here = stack_behind kind pairs b (member-edges pairs b (omega arith) ∙ begins_at pairs b front c h) in
    let rest = need_behind kind front c (residual b pairs) (λ i d l. low (suc i) d (let g : suc i < suc (length front) = omega arith in g)) h in
    omega arith
