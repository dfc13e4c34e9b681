-- Each text spells one key or none.
use Rattle.std.proofs.Common.{◌≡◌, ℕ, ◌+◌, ◌-◌, ◌*◌, ◌<◌, ◌≤◌, ◌⊎◌, inl, inr, List, [], ◌∷◌, length, zero, suc, refl, subst, arith}
use Rattle.std.specs.Prelude.{◌≢◌}
use Rattle.std.proofs.lemmas.Bool.Decides.{eqb_tells, leb_tells}
use Rattle.zerotrie_lines.specs.Escapes.{IsHexDigit, SpellsHex, SpellsEscape, SpellsFirst, Spells}
use Rattle.zerotrie_lines.proofs.EscapeLemmas.{shorter, one_rest}

between : (a b n : ℕ) → ((a ≤ n) × (n ≤ b)) ⊎ ((a ≤ n) × (n ≤ b) → ⊥)
between a b n = elim (leb_tells a n) [
  | inl from ↦ elim (leb_tells n b) [ inl to ↦ inl (from.1, to.1) | inr over ↦ inr (λ h. omega (arith, over.1, h.1)) ]
  | inr below ↦ inr (λ h. omega (arith, below.1, h.0))
]

-- where the digits are
digit_in : (digit n : ℕ) → IsHexDigit digit n → ((48 ≤ digit) × (digit ≤ 57)) ⊎ ((97 ≤ digit) × (digit ≤ 102)) ⊎ ((65 ≤ digit) × (digit ≤ 70))
digit_in digit n h = elim h [
  | inl t ↦ inl (omega (arith, t.0, t.1), omega (arith, t.0, t.1))
  | inr t ↦ elim t.2 [
    | inl lower ↦ inr (inl (omega (arith, t.0, t.1, lower), omega (arith, t.0, t.1, lower)))
    | inr upper ↦ inr (inr (omega (arith, t.0, t.1, upper), omega (arith, t.0, t.1, upper)))
  ]
]

digit_or_none : (digit : ℕ) → ((n : ℕ) × IsHexDigit digit n) ⊎ ((n : ℕ) → IsHexDigit digit n → ⊥)
digit_or_none digit = elim (between 48 57 digit) [
  | inl t ↦ inl (digit - 48, inl (omega (arith, t.0, t.1), omega (arith, t.0, t.1)))
  | inr a ↦ elim (between 97 102 digit) [
    | inl t ↦ inl (digit - 87, inr (omega (arith, t.0, t.1), omega (arith, t.0, t.1), inl (omega (arith, t.0, t.1))))
    | inr b ↦ elim (between 65 70 digit) [
      | inl t ↦ inl (digit - 55, inr (omega (arith, t.0, t.1), omega (arith, t.0, t.1), inr (omega (arith, t.0, t.1))))
      | inr c ↦ inr (λ n h. elim (digit_in digit n h) [ inl x ↦ a x | inr y ↦ elim y [ inl x ↦ b x | inr x ↦ c x ] ])
    ]
  ]
]

hex_or_none : (more : List ℕ) → ((b : ℕ) × (rest : List ℕ) × SpellsHex more b rest) ⊎ ((b : ℕ) (rest : List ℕ) → SpellsHex more b rest → ⊥)
hex_or_none [] = inr (λ b rest h. h)
hex_or_none (high ∷ []) = inr (λ b rest h. h)
hex_or_none (high ∷ low ∷ more) = elim (digit_or_none high) [
  | inl h ↦ elim (digit_or_none low) [
    | inl l ↦ inl (16 * h.0 + l.0, more, (h.0, l.0, h.1, l.1, refl, refl))
    | inr none ↦ inr (λ b rest s. none s.1 s.3)
  ]
  | inr none ↦ inr (λ b rest s. none s.0 s.2)
]

-- a letter that begins no escape
no_escape : (letter b : ℕ) (more rest : List ℕ) → letter ≢ 116 → letter ≢ 110 → letter ≢ 114 → letter ≢ 92 → ((letter ≡ 120) × SpellsHex more b rest → ⊥) → SpellsEscape letter more b rest → ⊥
no_escape letter b more rest t n r s x h = elim h [
  | inl e ↦ t e.0
  | inr h ↦ elim h [
    | inl e ↦ n e.0
    | inr h ↦ elim h [
      | inl e ↦ r e.0
      | inr h ↦ elim h [ inl e ↦ s e.0 | inr e ↦ x e ]
    ]
  ]
]

escape_or_none : (letter : ℕ) (more : List ℕ) → ((b : ℕ) × (rest : List ℕ) × SpellsEscape letter more b rest) ⊎ ((b : ℕ) (rest : List ℕ) → SpellsEscape letter more b rest → ⊥)
escape_or_none letter more = elim (eqb_tells letter 116) [
  | inl is ↦ inl (9, more, inl (is.1, refl, refl))
  | inr t ↦ elim (eqb_tells letter 110) [
    | inl is ↦ inl (10, more, inr (inl (is.1, refl, refl)))
    | inr n ↦ elim (eqb_tells letter 114) [
      | inl is ↦ inl (13, more, inr (inr (inl (is.1, refl, refl))))
      | inr r ↦ elim (eqb_tells letter 92) [
        | inl is ↦ inl (92, more, inr (inr (inr (inl (is.1, refl, refl)))))
        | inr s ↦ elim (eqb_tells letter 120) [
          | inl is ↦ elim (hex_or_none more) [
            | inl h ↦ inl (h.0, h.1, inr (inr (inr (inr (is.1, h.2)))))
            | inr none ↦ inr (λ b rest. no_escape letter b more rest t.1 n.1 r.1 s.1 (λ x. none b rest x.1))
          ]
          | inr other ↦ inr (λ b rest. no_escape letter b more rest t.1 n.1 r.1 s.1 (λ x. other.1 x.0))
        ]
      ]
    ]
  ]
]

first_or_none : (text : List ℕ) → ((b : ℕ) × (rest : List ℕ) × SpellsFirst text b rest) ⊎ ((b : ℕ) (rest : List ℕ) → SpellsFirst text b rest → ⊥)
first_or_none [] = inr (λ b rest h. h)
first_or_none (c ∷ []) = elim (eqb_tells c 92) [
  | inl slash ↦ inr (λ b rest h. h.0 slash.1)
  | inr other ↦ inl (c, [], (other.1, refl, refl))
]
first_or_none (c ∷ letter ∷ more) = elim (eqb_tells c 92) [
  | inl slash ↦ elim (escape_or_none letter more) [
    | inl e ↦ inl (e.0, e.1, inr (slash.1, e.2))
    | inr none ↦ inr (λ b rest h. elim h [ inl t ↦ t.0 slash.1 | inr t ↦ none b rest t.1 ])
  ]
  | inr other ↦ inl (c, letter ∷ more, inl (other.1, refl, refl))
]

-- nothing is spelled if the first byte is not, or nothing by what follows it
nothing_first : (c : ℕ) (text : List ℕ) → ((b : ℕ) (rest : List ℕ) → SpellsFirst (c ∷ text) b rest → ⊥) → (key : List ℕ) → Spells (c ∷ text) key → ⊥
nothing_first c text none [] h = absurd (cc h)
nothing_first c text none (b ∷ key) h = none b h.0 h.1

nothing_behind : (c d : ℕ) (text rest : List ℕ) → SpellsFirst (c ∷ text) d rest → ((key : List ℕ) → Spells rest key → ⊥) → (key : List ℕ) → Spells (c ∷ text) key → ⊥
nothing_behind c d text rest first none [] h = absurd (cc h)
nothing_behind c d text rest first none (b ∷ key) h = none key (subst (λ r. Spells r key) (one_rest (c ∷ text) rest h.0 d b first h.1) h.2)

spells_within : (most : ℕ) (text : List ℕ) → length text < most → ((key : List ℕ) × Spells text key) ⊎ ((key : List ℕ) → Spells text key → ⊥)
spells_within zero text few = absurd (omega (arith, few))
spells_within (suc most) [] few = inl ([], refl)
spells_within (suc most) (c ∷ text) few = elim (first_or_none (c ∷ text)) [
  | inl f ↦ elim (spells_within most f.1 (omega (arith, few, shorter (c ∷ text) f.1 f.0 f.2))) [
    | inl k ↦ inl (f.0 ∷ k.0, (f.1, f.2, k.1))
    | inr none ↦ inr (nothing_behind c f.0 text f.1 f.2 none)
  ]
  | inr none ↦ inr (nothing_first c text none)
]

-- a text spells a key, or none
pub spells_or_not : (text : List ℕ) → ((key : List ℕ) × Spells text key) ⊎ ((key : List ℕ) → Spells text key → ⊥)
spells_or_not text = spells_within (suc (length text)) text (omega arith)
