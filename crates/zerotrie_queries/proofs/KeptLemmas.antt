-- The conditions of a choice but that of its word.
use Rattle.std.proofs.Common.{◌≡◌, ◌∙◌, ℕ, List, Bool, true, false, Option, Some, None, IfSome, IfNone, refl, sym, ap, not}
use Rattle.std.specs.Prelude.{◌&&◌, ◌||◌}
use Rattle.zerotrie_core.specs.Kinds.{kind_of}
use Rattle.zerotrie_core.specs.declared.TrieKind.{TrieKind}
use Rattle.zerotrie_search.specs.Automata.{finds_by}
use Rattle.zerotrie_queries.specs.Chosen.{is_spared, is_word, pattern_by}
use Rattle.zerotrie_queries.specs.Kept.{some_accepts}
use Rattle.zerotrie_queries.specs.declared.question.Pattern.{Pattern}

or_false : (b : Bool) → (b || false) ≡ b
or_false true = refl
or_false false = refl

-- the automaton of a pattern accepts what the pattern finds, if it is one
pub pattern_finds : {A : Type 0} (accepts : A → List ℕ → Bool) (o : Option A) (word : Bool) (finds : List ℕ → Bool) → IfSome o (λ a. (word ≡ true) × (accepts a ≡ finds)) → IfNone o (word ≡ false)
    → (key : List ℕ) → some_accepts accepts o key ≡ (word && finds key)
pattern_finds accepts None word finds some none key = rw none refl
pattern_finds accepts (Some a) word finds some none key = rw some.0 (ap (λ f. f key) some.1)

-- so no pattern of bytes, or of characters, matches what neither accepts
pub no_bytes : {A : Type 0} (accepts : A → List ℕ → Bool) (o : Option A) (word : Bool) (finds : List ℕ → Bool) → IfSome o (λ a. (word ≡ true) × (accepts a ≡ finds)) → IfNone o (word ≡ false)
    → (key : List ℕ) → not (some_accepts accepts o key || false) ≡ not (word && finds key)
no_bytes accepts o word finds some none key = ap not (or_false (some_accepts accepts o key) ∙ pattern_finds accepts o word finds some none key)

pub no_chars : {A : Type 0} (accepts : A → List ℕ → Bool) (o : Option A) (word : Bool) (finds : List ℕ → Bool) → IfSome o (λ a. (word ≡ true) × (accepts a ≡ finds)) → IfNone o (word ≡ false)
    → (key : List ℕ) → not (false || some_accepts accepts o key) ≡ not (word && finds key)
no_chars accepts o word finds some none key = ap not (pattern_finds accepts o word finds some none key)

-- what a pattern of a sort spares
pub spared_by : (kind : TrieKind) (o : Option Pattern) (p : Pattern) (by_chars : Bool) → o ≡ Some p → p.by_chars ≡ by_chars → (key : List ℕ)
    → not (is_word (pattern_by by_chars) p.text.now && finds_by (kind_of kind) (pattern_by by_chars) p.text.now key) ≡ is_spared kind o key
spared_by kind o p by_chars is sort key =
    sym (ap (λ b. not (is_word (pattern_by b) p.text.now && finds_by (kind_of kind) (pattern_by b) p.text.now key)) sort) ∙ ap (λ x. is_spared kind x key) (sym is)
