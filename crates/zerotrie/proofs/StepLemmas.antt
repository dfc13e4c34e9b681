-- What is left of a trie after steps answers as the trie does for keys with these bytes in front.
use Rattle.std.proofs.Common.{◌≡◌, ℕ, List, [], ◌∷◌, ◌++◌, refl, sym, ap, ◌∙◌, arith, Bool, true, false, inl, inr, Option, Some, None}
use Rattle.std.specs.Prelude.{not, ◌==◌, ◌⊎◌, find, filter}
use Rattle.zerotrie_core.specs.Kind.{simple_ascii, same_byte}
use Rattle.zerotrie_core.specs.Maps.{Pairs, value_at}
use Rattle.zerotrie_core.specs.Cursors.{met, edge_like}
use Rattle.zerotrie_core.specs.Machine.{behind, without_value, after_steps}
use Rattle.zerotrie_core.proofs.CallerLemmas.{value_at-residual}

either : (b : Bool) → (b ≡ true) ⊎ (b ≡ false)
either true = inl refl
either false = inr refl

found_passes : (p : ℕ → Bool) (es : List ℕ) (e : ℕ) → find p es ≡ Some e → p e ≡ true
found_passes p [] e h = absurd (cc)
found_passes p (x ∷ es) e h = elim (either (p x)) [
  | inl y ↦ let h2 = rw y at h in let same : x ≡ e = cc in ap p (sym same) ∙ y
  | inr n ↦ found_passes p es e (rw n at h)
]

none_here : (p : ℕ → Bool) (b : ℕ) (es : List ℕ) → find p (b ∷ es) ≡ None → (p b ≡ false) × (find p es ≡ None)
none_here p b es h = elim (either (p b)) [
  | inl y ↦ let wrong = rw y at h in absurd (cc)
  | inr n ↦ (n, rw n at h)
]

none_kept : (p : ℕ → Bool) (b : ℕ) (es : List ℕ) → p b ≡ false → find p (filter (λ c. not (c == b)) es) ≡ None → find p es ≡ None
none_kept p b [] n h = refl
none_kept p b (x ∷ es) n h = elim (either (x == b)) [
  | inl y ↦ let same : x ≡ b = grind arith in let out = ap p same ∙ n in rw (out) (none_kept p b es n (rw y at h))
  | inr other ↦ let parts = none_here p x (filter (λ c. not (c == b)) es) (rw other at h) in rw parts.0 (none_kept p b es n parts.1)
]

none_met : (c : ℕ) (pairs : Pairs) (key : List ℕ) → edge_like simple_ascii c (met pairs) ≡ None → value_at simple_ascii pairs (c ∷ key) ≡ None
none_met c [] key h = refl
none_met c (([], v) ∷ pairs) key h = none_met c pairs key h
none_met c ((b ∷ k, v) ∷ pairs) key h =
    let parts = none_here (λ e. same_byte simple_ascii e c) b (filter (λ x. not (x == b)) (met pairs)) h in
    let other : (b == c) ≡ false = parts.0 in
    rw other (none_met c pairs key (none_kept (λ e. same_byte simple_ascii e c) b (met pairs) parts.0 parts.1))

step_edge : (c : ℕ) (pairs : Pairs) (key : List ℕ) (o : Option ℕ) → edge_like simple_ascii c (met pairs) ≡ o → value_at simple_ascii (behind o pairs) key ≡ value_at simple_ascii pairs (c ∷ key)
step_edge c pairs key None h = sym (none_met c pairs key h)
step_edge c pairs key (Some e) h =
    let found = found_passes (λ x. same_byte simple_ascii x c) (met pairs) e h in
    let same : e ≡ c = grind arith in
    value_at-residual e pairs key ∙ ap (λ x. value_at simple_ascii pairs (x ∷ key)) same

-- after a step
pub value_at-step : (c : ℕ) (pairs : Pairs) (key : List ℕ) → value_at simple_ascii (behind (edge_like simple_ascii c (met pairs)) pairs) key ≡ value_at simple_ascii pairs (c ∷ key)
value_at-step c pairs key = step_edge c pairs key (edge_like simple_ascii c (met pairs)) refl

-- after a step by each byte of a text
pub value_at-steps : (text : List ℕ) (pairs : Pairs) (key : List ℕ) → value_at simple_ascii (after_steps simple_ascii text pairs) key ≡ value_at simple_ascii pairs (text ++ key)
value_at-steps [] pairs key = refl
value_at-steps (c ∷ text) pairs key = value_at-steps text (behind (edge_like simple_ascii c (met pairs)) pairs) key ∙ value_at-step c pairs (text ++ key)

-- a value that is taken is that of the empty key alone
pub value_at-taken : (pairs : Pairs) (c : ℕ) (key : List ℕ) → value_at simple_ascii (without_value pairs) (c ∷ key) ≡ value_at simple_ascii pairs (c ∷ key)
value_at-taken [] c key = refl
value_at-taken (([], v) ∷ pairs) c key = refl
value_at-taken ((b ∷ k, v) ∷ pairs) c key = rw (value_at-taken pairs c key) refl

-- if nothing is left, steps leave nothing
pub after_none : (key : List ℕ) → after_steps simple_ascii key [] ≡ []
after_none [] = refl
after_none (c ∷ key) = after_none key
