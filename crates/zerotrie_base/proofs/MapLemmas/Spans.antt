-- Pairs with a run of bytes in front of each key, and what a span begins with.
use Rattle.std.proofs.Common.{◌≡◌, ℕ, zero, suc, ◌<◌, ◌≤◌, List, [], ◌∷◌, ◌++◌, length, refl, sym, ◌∙◌, ap, subst, arith, inl, inr, Bool, true, false, cond, Option, Some, None, leb}
use Rattle.std.specs.Prelude.{is_some}
use Rattle.std.specs.Option.{option_map_or}
use Rattle.std.proofs.lemmas.Bool.{eq-eqb, ne_eqb, cases_eq, le-leb, lt-leb}
use Rattle.zerotrie_base.specs.Kind.{Kind, simple_ascii, fold_byte}
use Rattle.zerotrie_base.specs.Maps.{Pairs, with_front, with_run, after_run, value_at, edges, residual, behind_all, longest, high_edge, run_to, run_of}
use Rattle.zerotrie_base.specs.Texts.{AreHigh}
use Rattle.zerotrie_base.proofs.MapLemmas.Edges.{edges_front, residual-front, residual-other}
use Rattle.zerotrie_base.proofs.MapLemmas.Kinds.{one_fold, two_folds}
use Rattle.zerotrie_base.proofs.MapLemmas.Values.{value_at-front, value_at-other, value_at-no_key}

pub with_run-none : (pairs : Pairs) → with_run [] pairs ≡ pairs
with_run-none [] = refl
with_run-none (e ∷ pairs) = ap (λ ps. e ∷ ps) (with_run-none pairs)

-- the first byte of the run stands in front of the others
pub with_run-front : (b : ℕ) (run : List ℕ) (pairs : Pairs) → with_run (b ∷ run) pairs ≡ with_front b (with_run run pairs)
with_run-front b run [] = refl
with_run-front b run (e ∷ pairs) = ap (λ ps. (b ∷ (run ++ e.0), e.1) ∷ ps) (with_run-front b run pairs)

-- what a byte in front keeps, a run in front keeps
pub by_fronts : (P : Pairs → Type 0) (run : List ℕ) (pairs : Pairs) → AreHigh run → ((b : ℕ) (ps : Pairs) → b < 256 → P ps → P (with_front b ps)) → P pairs → P (with_run run pairs)
by_fronts P [] pairs high keeps p = subst P (sym (with_run-none pairs)) p
by_fronts P (b ∷ run) pairs high keeps p = subst P (sym (with_run-front b run pairs)) (keeps b (with_run run pairs) high.1 (by_fronts P run pairs high.2 keeps p))

-- some pair stays
pub run_none : (run : List ℕ) (pairs : Pairs) → with_run run pairs ≡ [] → pairs ≡ []
run_none run [] e = refl
run_none run (x ∷ pairs) e = absurd (cc)

-- a look-up goes on after the run
pub value_at-run : (kind : Kind) → ((b : ℕ) → fold_byte kind b ≡ b) → (run : List ℕ) (pairs : Pairs) (key : List ℕ) → value_at kind (with_run run pairs) key ≡ option_map_or (λ after. value_at kind pairs after) (after_run run key) None
value_at-run kind keeps [] pairs key = ap (λ ps. value_at kind ps key) (with_run-none pairs)
value_at-run kind keeps (b ∷ run) pairs [] = ap (λ ps. value_at kind ps []) (with_run-front b run pairs) ∙ value_at-no_key kind b (with_run run pairs)
value_at-run kind keeps (b ∷ run) pairs (c ∷ key) = ap (λ ps. value_at kind ps (c ∷ key)) (with_run-front b run pairs) ∙ elim (cases_eq b c) [
  | inl same ↦
      value_at-front kind b c key (with_run run pairs) (one_fold kind b c (ap (fold_byte kind) same))
      ∙ value_at-run kind keeps run pairs key
      ∙ rw (eq-eqb b c same) refl
  | inr other ↦
      value_at-other kind b c key (with_run run pairs) (two_folds kind b c (λ f. other (sym (keeps b) ∙ f ∙ keeps c)))
      ∙ rw (ne_eqb b c other) refl
]

pub value_at-no_run : (kind : Kind) (run : List ℕ) (pairs : Pairs) → (run ≡ [] → ⊥) → value_at kind (with_run run pairs) [] ≡ None
value_at-no_run kind [] pairs some = absurd (some refl)
value_at-no_run kind (b ∷ run) pairs some = ap (λ ps. value_at kind ps []) (with_run-front b run pairs) ∙ value_at-no_key kind b (with_run run pairs)

-- the pairs after the first byte, and after any other
pub residual-run : (b : ℕ) (run : List ℕ) (pairs : Pairs) → residual b (with_run (b ∷ run) pairs) ≡ with_run run pairs
residual-run b run pairs = ap (residual b) (with_run-front b run pairs) ∙ residual-front b (with_run run pairs)

pub residual-run_other : (b c : ℕ) (run : List ℕ) (pairs : Pairs) → (c ≡ b → ⊥) → residual b (with_run (c ∷ run) pairs) ≡ []
residual-run_other b c run pairs other = ap (residual b) (with_run-front c run pairs) ∙ residual-other b c (with_run run pairs) other

pub behind_run : (run : List ℕ) (pairs : Pairs) → behind_all run (with_run run pairs) ≡ pairs
behind_run [] pairs = with_run-none pairs
behind_run (b ∷ run) pairs = ap (behind_all run) (residual-run b run pairs) ∙ behind_run run pairs

pub edges_run : (b : ℕ) (run : List ℕ) (pairs : Pairs) → b < 256 → (pairs ≡ [] → ⊥) → edges (with_run (b ∷ run) pairs) ≡ b ∷ []
edges_run b run pairs low some = ap edges (with_run-front b run pairs) ∙ edges_front b (with_run run pairs) low (λ none. some (run_none run pairs none))

nothing_some : (o : Option (List ℕ)) (x : List ℕ) → o ≡ None → o ≡ Some x → ⊥
nothing_some o x none some = cc

-- a key is the run and what it has after it
pub after_is : (run key after : List ℕ) → after_run run key ≡ Some after → key ≡ run ++ after
after_is [] key after e = cc
after_is (b ∷ run) [] after e = absurd (cc)
after_is (b ∷ run) (c ∷ key) after e = elim (cases_eq b c) [
  | inl same ↦ ap (λ x. x ∷ key) (sym same) ∙ ap (λ k. b ∷ k) (after_is run key after (rw (eq-eqb b c same) at e))
  | inr other ↦ absurd (nothing_some (after_run (b ∷ run) (c ∷ key)) after (rw (ne_eqb b c other) refl) e)
]

longest-front : (b : ℕ) (pairs : Pairs) → (pairs ≡ [] → ⊥) → longest (with_front b pairs) ≡ suc (longest pairs)
longest-front b [] some = absurd (some refl)
longest-front b (e ∷ []) some = omega arith
longest-front b (e ∷ f ∷ pairs) some = let rest = longest-front b (f ∷ pairs) (λ none. absurd (cc)) in omega arith

-- a byte in front of a run that each key begins with
run_front : (d b : ℕ) (pairs : Pairs) → b < 256 → (pairs ≡ [] → ⊥) → run_to (suc d) (with_front b pairs) ≡ cond (leb 128 b) (b ∷ run_to d pairs) []
run_front d b pairs low some =
    ap (λ o. cond (is_some o) [] (high_edge (edges (with_front b pairs)) (λ c. run_to d (residual c (with_front b pairs))))) (value_at-no_key simple_ascii b pairs)
    ∙ ap (λ es. high_edge es (λ c. run_to d (residual c (with_front b pairs)))) (edges_front b pairs low some)
    ∙ ap (λ ps. cond (leb 128 b) (b ∷ run_to d ps) []) (residual-front b pairs)

pub run_of-literal : (b : ℕ) (pairs : Pairs) → b < 128 → (pairs ≡ [] → ⊥) → run_of (with_front b pairs) ≡ []
unfolding run_of
run_of-literal b pairs low some =
    ap (λ d. run_to d (with_front b pairs)) (longest-front b pairs some)
    ∙ run_front (longest pairs) b pairs (omega arith) some
    ∙ rw (lt-leb 128 b low) refl

run_of-front : (b : ℕ) (pairs : Pairs) → 128 ≤ b → b < 256 → (pairs ≡ [] → ⊥) → run_of (with_front b pairs) ≡ b ∷ run_of pairs
unfolding run_of
run_of-front b pairs high low some =
    ap (λ d. run_to d (with_front b pairs)) (longest-front b pairs some)
    ∙ run_front (longest pairs) b pairs low some
    ∙ rw (le-leb 128 b high) refl

-- a run in front goes on as what stands after it begins
pub run_of-run : (run : List ℕ) (pairs : Pairs) → AreHigh run → (pairs ≡ [] → ⊥) → run_of (with_run run pairs) ≡ run ++ run_of pairs
run_of-run [] pairs high some = ap run_of (with_run-none pairs)
run_of-run (b ∷ run) pairs high some =
    ap run_of (with_run-front b run pairs)
    ∙ run_of-front b (with_run run pairs) high.0 high.1 (λ none. some (run_none run pairs none))
    ∙ ap (λ r. b ∷ r) (run_of-run run pairs high.2 some)

-- no run goes beyond the end of a key
pub run_of-value : (v : ℕ) (pairs : Pairs) → run_of (([], v) ∷ pairs) ≡ []
unfolding run_of
run_of-value v pairs = by_length (longest (([], v) ∷ pairs))
  where
    by_length : (d : ℕ) → run_to d (([], v) ∷ pairs) ≡ []
    by_length zero = refl
    by_length (suc d) = refl

high_edge-many : (es : List ℕ) (behind : ℕ → List ℕ) → 2 ≤ length es → high_edge es behind ≡ []
high_edge-many [] behind two = refl
high_edge-many (b ∷ []) behind two = absurd (omega arith)
high_edge-many (b ∷ c ∷ more) behind two = refl

either_none : (b : Bool) (run : List ℕ) → run ≡ [] → cond b [] run ≡ []
either_none true run none = refl
either_none false run none = none

-- and none begins where the keys part
pub run_of-many : (pairs : Pairs) → 2 ≤ length (edges pairs) → run_of pairs ≡ []
unfolding run_of
run_of-many pairs two = by_length (longest pairs)
  where
    by_length : (d : ℕ) → run_to d pairs ≡ []
    by_length zero = refl
    by_length (suc d) = either_none (is_some (value_at simple_ascii pairs [])) _ (high_edge-many (edges pairs) _ two)
