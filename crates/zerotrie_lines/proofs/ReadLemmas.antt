-- Lines that are read one after another.
use Rattle.std.proofs.Common.{◌≡◌, ℕ, ◌+◌, Bool, true, false, inl, inr, List, [], ◌∷◌, ◌++◌, refl, sym, subst, append_assoc, Any, suc, arith, Option, Some, None}
use Rattle.std.specs.Prelude.{IfNone, ◌⊎◌}
use Rattle.std.proofs.lemmas.List.{append-nil}
use Rattle.zerotrie_lines.specs.Tables.{Pair, Pairs}
use Rattle.zerotrie_lines.specs.Lines.{IsPairLine, text_lines}
use Rattle.zerotrie_lines.specs.Reads.{IsPairIn, ReadsLines, ReadsTabbed, HasNoItemsTabbed, IsNotPlain, first_number, tabbed, IsBadLine, IsLineFault}
use Rattle.zerotrie_lines.specs.declared.reading.Format.{Format}
use Rattle.zerotrie_lines.specs.declared.fault.BadLine.{BadLine}
use Rattle.zerotrie_lines.specs.declared.reading.Header.{Header}
use Rattle.zerotrie_lines.specs.declared.reading.Header.TheVariants.{Absent, Present, Named}
use Rattle.zerotrie_lines.specs.declared.reading.LineEnd.{LineEnd}

-- The lines, the first with this number, are the pairs so far, and then what the rest is, from line n on.
pub record ReadTo (first : ℕ) (format : Format) (all : List (List ℕ)) (pairs : Pairs) (n : ℕ) (rest : List (List ℕ)) : Type 0 where
  pub join : (more : Pairs) → ReadsLines format n rest more → ReadsLines format first all (pairs ++ more)

-- A line of the rest that is none is one of all lines.
pub record GoodTo (first : ℕ) (raw : Bool) (all : List (List ℕ)) (n : ℕ) (rest : List (List ℕ)) : Type 0 where
  pub bad : (m : ℕ) (fault : BadLine) → IsBadLine raw n rest m fault → IsBadLine raw first all m fault

-- a line with a tab that is a pair is one of its format
pub tabbed_pair : (raw : Bool) (n : ℕ) (line : List ℕ) (e : Pair) → IsPairLine raw line e → IsPairIn (tabbed raw) n line e
tabbed_pair true n line e h = h
tabbed_pair false n line e h = h

pub read_none : (first : ℕ) (format : Format) (all : List (List ℕ)) → ReadTo first format all [] first all
read_none first format all = record { join = λ more h. h }

pub read_more : (first : ℕ) (format : Format) (all rest after : List (List ℕ)) (pairs : Pairs) (n : ℕ) (line : List ℕ) (e : Pair) → ReadTo first format all pairs n rest
    → rest ≡ line ∷ after → IsPairIn format n line e → ReadTo first format all (pairs ++ e ∷ []) (n + 1) after
read_more first format all rest after pairs n line e r is pair = record {
  join = λ more h. subst (λ p. ReadsLines format first all p) (sym (append_assoc pairs (e ∷ []) more))
      (r.join (e ∷ more) (subst (λ lines. ReadsLines format n lines (e ∷ more)) (sym is) (pair, h)));
}

pub good_more : (first : ℕ) (raw : Bool) (all rest after : List (List ℕ)) (n : ℕ) (line : List ℕ) (e : Pair) → GoodTo first raw all n rest
    → rest ≡ line ∷ after → IsPairLine raw line e → GoodTo first raw all (n + 1) after
good_more first raw all rest after n line e r is pair = record {
  bad = λ m fault h. r.bad m fault (subst (λ lines. IsBadLine raw n lines m fault) (sym is) (inr (e, pair, h)));
}

pub read_all : (first : ℕ) (format : Format) (all rest : List (List ℕ)) (pairs : Pairs) (n : ℕ) → ReadTo first format all pairs n rest → rest ≡ [] → ReadsLines format first all pairs
read_all first format all rest pairs n r none = subst (λ p. ReadsLines format first all p) (append-nil pairs) (r.join [] (subst (λ lines. ReadsLines format n lines []) (sym none) tt))

pub read_bad : (first : ℕ) (raw : Bool) (all rest after : List (List ℕ)) (n : ℕ) (line : List ℕ) (fault : BadLine) → GoodTo first raw all n rest
    → rest ≡ line ∷ after → IsLineFault raw line fault → IsBadLine raw first all n fault
read_bad first raw all rest after n line fault r is h = r.bad n fault (subst (λ lines. IsBadLine raw n lines n fault) (sym is) (inl (refl, h)))

-- some line of the first and more
pub any_first : (Fact : List ℕ → Type 0) (line : List ℕ) (lines : List (List ℕ)) → Fact line → Any Fact (line ∷ lines)
any_first Fact line lines h = (0, line, omega arith, refl, h)

pub any_later : (Fact : List ℕ → Type 0) (line : List ℕ) (lines : List (List ℕ)) → Any Fact lines → Any Fact (line ∷ lines)
any_later Fact line lines h = (suc h.0, h.1, omega (arith, h.2), h.3, h.4)

-- of lines with one tab, items are their pairs, if no columns are named
pub items_read : (own raw : Bool) (header : Header) (end : LineEnd) (input : List ℕ) (lines : List (List ℕ)) (pairs : Pairs) → raw ≡ own → (header ≡ Absent) ⊎ (header ≡ Present)
    → lines ≡ text_lines end header input → ReadsLines (tabbed own) (first_number header) lines pairs → ReadsTabbed raw header end input pairs
items_read own raw Absent end input lines pairs same is are h = rw (same, sym are) h
items_read own raw Present end input lines pairs same is are h = rw (same, sym are) h
items_read own raw (Named of) end input lines pairs same is are h = absurd (elim is [ inl p ↦ cc p | inr p ↦ cc p ])

no_items : (own raw : Bool) (header : Header) (end : LineEnd) (input : List ℕ) (lines : List (List ℕ)) → raw ≡ own → (header ≡ Absent) ⊎ (header ≡ Present)
    → lines ≡ text_lines end header input → Any (IsNotPlain own) lines → HasNoItemsTabbed raw header end input
no_items own raw Absent end input lines same is are h = rw (same, sym are) h
no_items own raw Present end input lines same is are h = rw (same, sym are) h
no_items own raw (Named of) end input lines same is are h = tt

pub items_none : {X : Type 0} (items : Option X) (own raw : Bool) (header : Header) (end : LineEnd) (input : List ℕ) (lines : List (List ℕ)) → raw ≡ own → (header ≡ Absent) ⊎ (header ≡ Present)
    → lines ≡ text_lines end header input → IfNone items (Any (IsNotPlain own) lines) → IfNone items (HasNoItemsTabbed raw header end input)
items_none None own raw header end input lines same is are h = no_items own raw header end input lines same is are h
items_none (Some x) own raw header end input lines same is are h = h
