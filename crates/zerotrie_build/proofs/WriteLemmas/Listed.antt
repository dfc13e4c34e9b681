-- Texts of pairs, in whatever order they list them, by what stands first.
use Rattle.std.proofs.Common.{◌≡◌, ℕ, ◌+◌, ◌*◌, ◌/◌, ◌<◌, ◌≤◌, ◌⊎◌, inl, inr, List, [], ◌∷◌, ◌++◌, length, refl, sym, ◌∙◌, ap, subst, arith, Option, Some, None, true, false, cond, Bool}
use Rattle.std.proofs.lemmas.Bool.{cases_eq, eq-eqb, ne_eqb, le-leb}
use Rattle.zerotrie_base.specs.Kind.{Kind, simple_ascii, has_spans}
use Rattle.zerotrie_base.specs.Numbers.{value_form, span_form, Spells, SpellsAs}
use Rattle.zerotrie_base.specs.Maps.{Pairs, with_front, with_run, value_at, same_key}
use Rattle.zerotrie_base.specs.Texts.{Lists, NoValueFirst, NoSpanFirst, AreHigh}
use Rattle.zerotrie_base.specs.Texts.Lists.{nothing, value, literal, span, branch}
use Rattle.zerotrie_base.specs.Canonical.{size_of}
use Rattle.zerotrie_base.proofs.CallerLemmas.{below_metadata, value_at-no_key, value_at-front, value_at-other, first_found, not_empty_text, listed_size, same-size_of}
use Rattle.zerotrie_build.specs.passes.Windows.{high_front}
use Rattle.zerotrie_build.specs.passes.Writing.{Listed}
use Rattle.zerotrie_build.proofs.Runs.{with_run-nil, with_run-front}
use Rattle.zerotrie_build.proofs.WindowLemmas.Windows.{last_key}

-- pairs answer alike
abbrev pub Same : Pairs → Pairs → Type 0
Same p q = (key : List ℕ) → value_at simple_ascii p key ≡ value_at simple_ascii q key

none_some : (v : ℕ) (o : Option ℕ) → o ≡ None → o ≡ Some v → ⊥
none_some v o e f = cc

-- no pairs answer like some
pub some_listed : (p q : Pairs) → Same p q → (q ≡ [] → ⊥) → p ≡ [] → ⊥
some_listed p [] same some none = some refl
some_listed p (e ∷ q) same some none = none_some e.1 (value_at simple_ascii p e.0) (ap (λ x. value_at simple_ascii x e.0) none) (same e.0 ∙ first_found e q)

pub same_front : (b : ℕ) (p q : Pairs) → Same p q → Same (with_front b p) (with_front b q)
same_front b p q same [] = value_at-no_key simple_ascii b p ∙ sym (value_at-no_key simple_ascii b q)
same_front b p q same (c ∷ key) = elim (cases_eq b c) [
  | inl one ↦ value_at-front simple_ascii b c key p (eq-eqb b c one) ∙ same key ∙ sym (value_at-front simple_ascii b c key q (eq-eqb b c one))
  | inr other ↦ value_at-other simple_ascii b c key p (ne_eqb b c other) ∙ sym (value_at-other simple_ascii b c key q (ne_eqb b c other))
]

pub same_run : (run : List ℕ) (p q : Pairs) → Same p q → Same (with_run run p) (with_run run q)
same_run [] p q same key = ap (λ x. value_at simple_ascii x key) (with_run-nil p) ∙ same key ∙ sym (ap (λ x. value_at simple_ascii x key) (with_run-nil q))
same_run (b ∷ run) p q same key =
    ap (λ x. value_at simple_ascii x key) (with_run-front b run p) ∙ same_front b (with_run run p) (with_run run q) (same_run run p q same) key
    ∙ sym (ap (λ x. value_at simple_ascii x key) (with_run-front b run q))

-- the lead of a number with its metadata
lead_is : (L m v : ℕ) (bytes rest : List ℕ) → Spells L m v bytes → (lead : ℕ) × (more : List ℕ) × (m * (2 * L) ≤ lead) × (lead < m * (2 * L) + 2 * L) × (bytes ++ rest ≡ lead ∷ more)
lead_is L m v bytes rest s =
    let b = below_metadata L m v bytes s in
    let low = b.2 in
    (m * (2 * L) + b.0, b.1 ++ rest, omega arith, omega arith, ap (λ x. x ++ rest) b.3)

no_value_lead : (bytes rest : List ℕ) (v m L : ℕ) → (L ≡ 16) ⊎ (L ≡ 32) → ((lead : ℕ) → m * (2 * L) ≤ lead → lead < m * (2 * L) + 2 * L → lead / 32 ≡ 4 → ⊥) → Spells L m v bytes → NoValueFirst (bytes ++ rest)
no_value_lead bytes rest v m L known other s = let l = lead_is L m v bytes rest s in subst NoValueFirst (sym l.4) (other l.0 l.2 l.3)

no_span_lead : (bytes rest : List ℕ) (v m L : ℕ) → (L ≡ 16) ⊎ (L ≡ 32) → ((lead : ℕ) → m * (2 * L) ≤ lead → lead < m * (2 * L) + 2 * L → lead / 32 ≡ 5 → ⊥) → Spells L m v bytes → NoSpanFirst (bytes ++ rest)
no_span_lead bytes rest v m L known other s = let l = lead_is L m v bytes rest s in subst NoSpanFirst (sym l.4) (other l.0 l.2 l.3)

-- if no key is empty, no value stands first
no_value_first : {kind : Kind} {bytes : List ℕ} {pairs : Pairs} → Lists kind bytes pairs → value_at simple_ascii pairs [] ≡ None → NoValueFirst bytes
no_value_first nothing h = tt
no_value_first (value s n text) h = absurd (cc)
no_value_first (literal low n text) h = λ e. omega arith
no_value_first (span {spelling = sp} {rest = rest} run has some high s n f text) h = no_value_lead sp (run ++ rest) (length run) 5 16 (inl refl) (λ lead a b e. omega arith) s
no_value_first {bytes = bytes} (branch b each) h = subst NoValueFirst (sym b.bytes_are) (no_value_lead b.head _ _ 3 32 (inr refl) (λ lead a c e. omega arith) b.is_head)

front_found : (b : ℕ) (p : Pairs) (key : List ℕ) (v : ℕ) → value_at simple_ascii (with_front b p) key ≡ Some v → (k : List ℕ) × (key ≡ b ∷ k)
front_found b p [] v h = absurd (none_some v _ (value_at-no_key simple_ascii b p) h)
front_found b p (c ∷ key) v h = elim (cases_eq b c) [
  | inl one ↦ (key, ap (λ x. x ∷ key) (sym one))
  | inr other ↦ absurd (none_some v _ (value_at-other simple_ascii b c key p (ne_eqb b c other)) h)
]

-- the last key is found
last_found : (e : List ℕ × ℕ) (pairs : Pairs) → (v : ℕ) × (value_at simple_ascii (e ∷ pairs) (last_key (e ∷ pairs)) ≡ Some v)
last_found e [] = (e.1, first_found e [])
last_found e (f ∷ pairs) = let l = last_found f pairs in here (same_key simple_ascii e.0 (last_key (f ∷ pairs))) l.0 (value_at simple_ascii (f ∷ pairs) (last_key (f ∷ pairs))) l.1
  where
    here : (is : Bool) (v : ℕ) (o : Option ℕ) → o ≡ Some v → (w : ℕ) × (cond is (Some e.1) o ≡ Some w)
    here true v o h = (e.1, refl)
    here false v o h = (v, h)

-- if the first and the last key have no byte from 128 on in common in front, no span stands first
no_span_first : {kind : Kind} {bytes : List ℕ} {listed : Pairs} → Lists kind bytes listed → (e : List ℕ × ℕ) (more : Pairs) → Same listed (e ∷ more) → high_front e.0 (last_key (e ∷ more)) ≡ 0 → NoSpanFirst bytes
no_span_first nothing e more same h = tt
no_span_first (value {spelling = sp} {rest = rest} s n text) e more same h = no_span_lead sp rest _ 4 16 (inl refl) (λ lead a b f. omega arith) s
no_span_first (literal low n text) e more same h = λ f. omega arith
no_span_first (span [] has some high s n f text) e more same h = absurd (some refl)
no_span_first (span {pairs = p} (b ∷ run) has some high s n f text) e more same h =
    let is = with_run-front b run p in
    let found : (key : List ℕ) (v : ℕ) → value_at simple_ascii (e ∷ more) key ≡ Some v → (k : List ℕ) × (key ≡ b ∷ k) =
    λ key v at. front_found b (with_run run p) key v (ap (λ x. value_at simple_ascii x key) (sym is) ∙ same key ∙ at) in
    let l = last_found e more in
    absurd (both e.0 (last_key (e ∷ more)) (found e.0 e.1 (first_found e more)) (found _ l.0 l.1) h)
  where
    both : (first last : List ℕ) → ((k : List ℕ) × (first ≡ b ∷ k)) → ((k : List ℕ) × (last ≡ b ∷ k)) → high_front first last ≡ 0 → ⊥
    both first last x y z =
        let w : high_front (b ∷ x.0) (b ∷ y.0) ≡ 0 = ap (λ k. high_front k (b ∷ y.0)) (sym x.1) ∙ ap (high_front first) (sym y.1) ∙ z in
        let w' = rw (eq-eqb b b refl, le-leb 128 b high.0) at w in
        omega arith
no_span_first (branch b each) e more same h = subst NoSpanFirst (sym b.bytes_are) (no_span_lead b.head _ _ 3 32 (inr refl) (λ lead a c f. omega arith) b.is_head)

-- no text of no pairs
pub listed_nothing : (kind : Kind) → Listed kind [] []
listed_nothing kind = record { listed = []; lists = nothing; same = λ key. refl }

pub listed_some : {kind : Kind} {t : List ℕ} {pairs : Pairs} → (l : Listed kind t pairs) → (pairs ≡ [] → ⊥) → t ≡ [] → ⊥
listed_some {pairs = pairs} l some = not_empty_text l.lists (some_listed l.listed pairs l.same some)

pub listed_value : (kind : Kind) (v : ℕ) (spelling t : List ℕ) (pairs : Pairs) → SpellsAs value_form v spelling → value_at simple_ascii pairs [] ≡ None → Listed kind t pairs → Listed kind (spelling ++ t) (([], v) ∷ pairs)
listed_value kind v spelling t pairs s none l = record {
  listed = ([], v) ∷ l.listed;
  lists = value s (no_value_first l.lists (l.same [] ∙ none)) l.lists;
  same = λ key. ap (λ o. cond (same_key simple_ascii [] key) (Some v) o) (l.same key);
}

pub listed_literal : (kind : Kind) (b : ℕ) (t : List ℕ) (pairs : Pairs) → b < 128 → (pairs ≡ [] → ⊥) → Listed kind t pairs → Listed kind (b ∷ t) (with_front b pairs)
listed_literal kind b t pairs low some l = record {
  listed = with_front b l.listed;
  lists = literal low (listed_some l some) l.lists;
  same = same_front b l.listed pairs l.same;
}

pub listed_span : (kind : Kind) (run spelling t : List ℕ) (pairs : Pairs) → has_spans kind ≡ true → (run ≡ [] → ⊥) → AreHigh run → SpellsAs span_form (length run) spelling
    → (e : List ℕ × ℕ) (more : Pairs) → pairs ≡ e ∷ more → high_front e.0 (last_key pairs) ≡ 0 → Listed kind t pairs → Listed kind (spelling ++ (run ++ t)) (with_run run pairs)
listed_span kind run spelling t pairs has some high s e more is ends l = record {
  listed = with_run run l.listed;
  lists = span run has some high s (listed_some l (λ none. let f = sym is ∙ none in cc))
      (no_span_first l.lists e more (λ key. l.same key ∙ ap (λ x. value_at simple_ascii x key) is) (subst (λ x. high_front e.0 (last_key x) ≡ 0) is ends)) l.lists;
  same = same_run run l.listed pairs l.same;
}

-- a text is as long as the size of its pairs
pub listed_long : {kind : Kind} {t : List ℕ} {pairs : Pairs} → Listed kind t pairs → length t ≡ size_of kind pairs
listed_long {kind = kind} {pairs = pairs} l = sym (listed_size l.lists) ∙ same-size_of kind l.listed pairs l.same
