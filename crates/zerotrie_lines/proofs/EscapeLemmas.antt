-- What a text spells, byte by byte.
use Rattle.std.proofs.Common.{◌≡◌, ℕ, ◌<◌, ◌≤◌, inl, inr, List, [], ◌∷◌, ◌++◌, length, drop, refl, sym, ◌∙◌, ap, subst, arith, false, append_assoc, Option, Some, None, get_or, suc}
use Rattle.std.specs.Prelude.{◌≢◌, ◌==◌, IfNone, if◌then◌else◌}
use Rattle.std.proofs.lemmas.Bool.Decides.{eqb_tells}
use Rattle.std.proofs.lemmas.List.{append-nil}
use Rattle.zerotrie_lines.specs.Escapes.{IsHexDigit, SpellsHex, SpellsEscape, SpellsFirst, Spells}

-- what is left after the first byte that a text spells
after_escape : ℕ → List ℕ → List ℕ
after_escape letter more = if letter == 120 then drop 2 more else more

hex_left : (more rest : List ℕ) (b : ℕ) → SpellsHex more b rest → (rest ≡ drop 2 more) × (length rest < length more)
hex_left [] rest b h = absurd h
hex_left (high ∷ []) rest b h = absurd h
hex_left (high ∷ low ∷ more) rest b h = (h.5, omega (arith, ap (λ l. length l) h.5))

escape_left : (letter b : ℕ) (more rest : List ℕ) → SpellsEscape letter more b rest → (rest ≡ after_escape letter more) × (length rest ≤ length more)
unfolding after_escape
escape_left letter b more rest h = elim h [
  | inl t ↦ (rw t.0 t.2, omega (arith, ap (λ l. length l) t.2))
  | inr h ↦ elim h [
    | inl t ↦ (rw t.0 t.2, omega (arith, ap (λ l. length l) t.2))
    | inr h ↦ elim h [
      | inl t ↦ (rw t.0 t.2, omega (arith, ap (λ l. length l) t.2))
      | inr h ↦ elim h [
        | inl t ↦ (rw t.0 t.2, omega (arith, ap (λ l. length l) t.2))
        | inr t ↦ let l = hex_left more rest b t.1 in (rw t.0 l.0, omega (arith, l.1))
      ]
    ]
  ]
]

left_of : List ℕ → List ℕ
left_of [] = []
left_of (c ∷ []) = []
left_of (c ∷ letter ∷ more) = if c == 92 then after_escape letter more else letter ∷ more

not_slash : (c : ℕ) → c ≢ 92 → (c == 92) ≡ false
not_slash c h = elim (eqb_tells c 92) [ inl t ↦ absurd (h t.1) | inr f ↦ f.0 ]

is_left : (text rest : List ℕ) (b : ℕ) → SpellsFirst text b rest → (rest ≡ left_of text) × (length rest < length text)
unfolding left_of
is_left [] rest b h = absurd h
is_left (c ∷ []) rest b h = (h.2, omega (arith, ap (λ l. length l) h.2))
is_left (c ∷ letter ∷ more) rest b h = elim h [
  | inl t ↦ (rw (not_slash c t.0) t.2, omega (arith, ap (λ l. length l) t.2))
  | inr t ↦ let l = escape_left letter b more rest t.1 in (rw t.0 l.0, omega (arith, l.1))
]

-- what is left is shorter
pub shorter : (text rest : List ℕ) (b : ℕ) → SpellsFirst text b rest → length rest < length text
shorter text rest b h = (is_left text rest b h).1

-- it is one whatever the byte
pub one_rest : (text rest other : List ℕ) (b d : ℕ) → SpellsFirst text b rest → SpellsFirst text d other → other ≡ rest
one_rest text rest other b d h k = (is_left text other d k).0 ∙ sym (is_left text rest b h).0

-- The text spells the key and then what the rest spells.
pub record SpeltTo (text key rest : List ℕ) : Type 0 where
  pub join : (more : List ℕ) → Spells rest more → Spells text (key ++ more)
  pub split : (all : List ℕ) → Spells text all → (more : List ℕ) × Spells rest more

pub spelt_more : (text key rest after : List ℕ) (b : ℕ) → SpeltTo text key rest → SpellsFirst rest b after → SpeltTo text (key ++ b ∷ []) after
spelt_more text key rest after b s first = record {
  join = λ more h. subst (λ k. Spells text k) (sym (append_assoc key (b ∷ []) more)) (s.join (b ∷ more) (after, first, h));
  split = λ all h. let r = s.split all h in onward r.0 r.1;
}
  where
    onward : (more : List ℕ) → Spells rest more → (more : List ℕ) × Spells after more
    onward [] none = absurd (subst (λ t. SpellsFirst t b after) none first)
    onward (d ∷ more) h = (more, subst (λ r. Spells r more) (one_rest rest after h.0 b d first h.1) h.2)

pub spelt_all : (text key rest : List ℕ) → SpeltTo text key rest → rest ≡ [] → Spells text key
spelt_all text key rest s none = subst (λ k. Spells text k) (append-nil key) (s.join [] none)

pub spelt_not : (text key rest : List ℕ) → SpeltTo text key rest → (rest ≡ [] → ⊥) → ((b : ℕ) (after : List ℕ) → SpellsFirst rest b after → ⊥) → (all : List ℕ) → Spells text all → ⊥
spelt_not text key rest s some none all h = let r = s.split all h in at_once r.0 r.1
  where
    at_once : (more : List ℕ) → Spells rest more → ⊥
    at_once [] h = some h
    at_once (b ∷ more) h = none b h.0 h.1

-- a text with no backslash spells itself
pub spells_itself : (text : List ℕ) → ((k : ℕ) → k < length text → get_or text k 0 ≢ 92) → Spells text text
spells_itself [] none = refl
spells_itself (b ∷ []) none = ([], (none 0 (omega arith), refl, refl), refl)
spells_itself (b ∷ c ∷ text) none = (c ∷ text, inl (none 0 (omega arith), refl, refl), spells_itself (c ∷ text) (λ k l. none (suc k) (omega arith)))

-- digits that are none
pub no_hex : (text more tail : List ℕ) (high low : ℕ) → text ≡ high ∷ more → more ≡ low ∷ tail → ((h l : ℕ) → IsHexDigit high h → IsHexDigit low l → ⊥)
    → (b : ℕ) (rest : List ℕ) → SpellsHex text b rest → ⊥
no_hex text more tail high low is are none b rest h =
    let q = subst (λ t. SpellsHex t b rest) (is ∙ ap (λ m. high ∷ m) are) h in none q.0 q.1 q.2 q.3

-- an escape that is none
pub no_first : (text more tail : List ℕ) (first letter : ℕ) → text ≡ first ∷ more → more ≡ letter ∷ tail → first ≡ 92
    → ((b : ℕ) (rest : List ℕ) → SpellsEscape letter tail b rest → ⊥) → (b : ℕ) (rest : List ℕ) → SpellsFirst text b rest → ⊥
no_first text more tail first letter is are slash none b rest h =
    let q : SpellsFirst (first ∷ letter ∷ tail) b rest = subst (λ t. SpellsFirst t b rest) (is ∙ ap (λ m. first ∷ m) are) h in elim q [
      | inl t ↦ t.0 slash
      | inr t ↦ none b rest t.1
    ]

pub none_to : {A P Q : Type 0} (r : Option A) → (P → Q) → IfNone r P → IfNone r Q
none_to None f h = f h
none_to (Some x) f h = h
