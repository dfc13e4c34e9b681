-- Line ends and byte order marks.
use Rattle.std.proofs.Common.{◌≡◌, ℕ, inl, inr, List, [], ◌∷◌, ◌++◌, map, drop, refl, sym, ◌∙◌, ap, arith, Bool, true, false}
use Rattle.std.specs.Prelude.{◌≢◌, ◌==◌, if◌then◌else◌}
use Rattle.std.specs.List.{before_first, after_first}
use Rattle.std.proofs.lemmas.Bool.Decides.{eqb_tells}
use Rattle.csv.specs.Reading.{strip_bom}
use Rattle.zerotrie_lines.specs.Escapes.{has_mark}
use Rattle.zerotrie_lines.specs.Faults.{has_return}
use Rattle.zerotrie_lines.specs.Lines.{is_feed, without_return, ended, ended_lines}
use Rattle.zerotrie_lines.specs.declared.reading.LineEnd.{LineEnd}
use Rattle.zerotrie_lines.specs.declared.reading.LineEnd.TheVariants.{CrLf, Lf}
use Rattle.zerotrie_lines.proofs.BytesLemmas.{High, Lacks}
use Rattle.zerotrie_lines.proofs.LineLemmas.{first_lines}

no_return : (b : ℕ) → b ≢ 13 → (b == 13) ≡ false
no_return b other = elim (eqb_tells b 13) [ inl t ↦ absurd (other t.1) | inr f ↦ f.0 ]

return_on : (xs : List ℕ) (b : ℕ) (more : List ℕ) → b ≢ 13 → without_return (xs ++ b ∷ more) ≡ xs ++ b ∷ without_return more
return_on [] b [] other = rw (no_return b other) refl
return_on [] b (c ∷ more) other = refl
return_on (x ∷ []) b more other = ap (λ t. x ∷ t) (return_on [] b more other)
return_on (x ∷ y ∷ xs) b more other = ap (λ t. x ∷ t) (return_on (y ∷ xs) b more other)

-- what is in front of a byte stays, if that is no carriage return
pub ended_on : (end : LineEnd) (xs : List ℕ) (b : ℕ) (more : List ℕ) → b ≢ 13 → ended end (xs ++ b ∷ more) ≡ xs ++ b ∷ ended end more
ended_on CrLf xs b more other = return_on xs b more other
ended_on Lf xs b more other = refl

-- the carriage return at the end goes
pub return_off : (xs : List ℕ) → without_return (xs ++ 13 ∷ []) ≡ xs
return_off [] = refl
return_off (x ∷ []) = refl
return_off (x ∷ y ∷ xs) = ap (λ t. x ∷ t) (return_off (y ∷ xs))

return_high : (xs : List ℕ) → High xs → without_return xs ≡ xs
unfolding High
return_high [] h = refl
return_high (b ∷ []) h = rw (no_return b (λ is. omega (arith, is, h.0))) refl
return_high (b ∷ c ∷ xs) h = ap (λ t. b ∷ t) (return_high (c ∷ xs) h.1)

-- bytes from 32 on stay
pub ended_high : (end : LineEnd) (xs : List ℕ) → High xs → ended end xs ≡ xs
ended_high CrLf xs h = return_high xs h
ended_high Lf xs h = refl

return_lacks : (a : ℕ) (xs : List ℕ) → Lacks a xs → Lacks a (without_return xs)
unfolding Lacks
return_lacks a [] h = tt
return_lacks a (b ∷ []) h = by_last (b == 13)
  where
    by_last : (t : Bool) → Lacks a (if t then [] else b ∷ [])
    by_last true = tt
    by_last false = h
return_lacks a (b ∷ c ∷ xs) h = (h.0, return_lacks a (c ∷ xs) h.1)

pub ended_lacks : (end : LineEnd) (a : ℕ) (xs : List ℕ) → Lacks a xs → Lacks a (ended end xs)
ended_lacks CrLf a xs h = return_lacks a xs h
ended_lacks Lf a xs h = h

-- the first line of a text
pub first_ended : (end : LineEnd) (rest line after : List ℕ) → rest ≢ [] → line ≡ ended end (before_first is_feed rest) → after ≡ after_first is_feed rest
    → ended_lines end rest ≡ line ∷ ended_lines end after
first_ended end rest line after some is are =
    ap (map (ended end)) (first_lines rest (before_first is_feed rest) after some refl are) ∙ ap (λ l. l ∷ ended_lines end after) (sym is)

pub none_ended : (end : LineEnd) (rest : List ℕ) → rest ≡ [] → ended_lines end rest ≡ []
none_ended end rest none = ap (ended_lines end) none

-- a byte order mark is three bytes
pub mark_off : (xs : List ℕ) → has_mark xs ≡ true → drop 3 xs ≡ strip_bom xs
unfolding strip_bom
mark_off [] h = absurd (cc h)
mark_off (a ∷ []) h = absurd (cc h)
mark_off (a ∷ b ∷ []) h = absurd (cc h)
mark_off (a ∷ b ∷ c ∷ rest) h = rw h refl

-- and where there is none, nothing is left out
pub no_mark : (xs : List ℕ) → has_mark xs ≡ false → strip_bom xs ≡ xs
unfolding strip_bom
no_mark [] h = refl
no_mark (a ∷ []) h = refl
no_mark (a ∷ b ∷ []) h = refl
no_mark (a ∷ b ∷ c ∷ rest) h = rw h refl

-- the last byte of a line
pub last_is_return : (xs : List ℕ) (last : ℕ) → has_return (xs ++ last ∷ []) ≡ (last == 13)
last_is_return [] last = refl
last_is_return (x ∷ []) last = refl
last_is_return (x ∷ y ∷ xs) last = last_is_return (y ∷ xs) last

-- a line without its last byte, or whole
pub cut_last : (line front : List ℕ) (last : ℕ) → line ≡ front ++ last ∷ [] → last ≡ 13 → front ≡ without_return line
cut_last line front last is return = rw (is, return) (sym (return_off front))

pub kept_last : (line front : List ℕ) (last : ℕ) → line ≡ front ++ last ∷ [] → last ≢ 13 → line ≡ without_return line
kept_last line front last is other = rw is (sym (return_on front last [] other))
