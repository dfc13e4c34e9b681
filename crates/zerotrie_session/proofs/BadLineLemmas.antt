-- Lines that are no commands, by what is bad in them.
use Rattle.std.proofs.Common.{◌≡◌, ◌≢◌, ℕ, List, ◌∷◌, ◌++◌, length, get_or, refl, sym, ◌∙◌, ap, subst, arith, false, codes, inl, inr}
use Rattle.std.specs.Prelude.{◌==◌}
use Rattle.std.specs.List.{before_first}
use Rattle.std.proofs.lemmas.Bool.{eqb-false}
use Rattle.zerotrie_session.specs.Numbers.{IsNumber}
use Rattle.zerotrie_session.specs.Calls.{AreOps, words_of}
use Rattle.zerotrie_session.specs.Commands.{Command, choose, add, build, query, list, walk, HasKey, IsCommand, name_of}
use Rattle.zerotrie_session.specs.BadLines.{IsNoNumber, IsNoPair, IsNoCommand, IsBadAs}
use Rattle.zerotrie_session.specs.declared.command.BadLine.{BadLine}
use Rattle.zerotrie_session.specs.declared.command.BadLine.TheVariants.{CarriageReturn, NoCommand, UnknownKind, NoValue, NoNumber, TooManyDigits, TooLarge, NoCall, NoKind, WalkUnderAuto}
use Rattle.zerotrie_session.proofs.LineLemmas.{begins, not_stripped, same_rest, no_pair_line}

no_number : (digits : List ℕ) (bad : BadLine) → IsNoNumber digits bad → (value : ℕ) → IsNumber digits value → ⊥
no_number digits NoValue e value number = let none : length digits ≡ 0 = ap length e in omega (arith, number.some)
no_number digits NoNumber none value number = none number.all
no_number digits TooManyDigits many value number = omega (arith, number.few)
no_number digits TooLarge large value number = omega (arith, number.is, number.below)
no_number digits CarriageReturn h value number = h
no_number digits NoCommand h value number = h
no_number digits UnknownKind h value number = h
no_number digits NoCall h value number = h
no_number digits NoKind h value number = h
no_number digits WalkUnderAuto h value number = h

-- the letter that a command begins with
abbrev letter : Command → ℕ
letter (choose choice) = 107
letter (add value key) = 43
letter build = 98
letter (query key) = 63
letter list = 108
letter (walk ops) = 119

first : (line text : List ℕ) → line ≡ text → get_or line 0 0 ≡ get_or text 0 0
first line text e = ap (λ l. get_or l 0 0) e

begins_so : (line : List ℕ) (command : Command) → IsCommand line command → get_or line 0 0 ≡ letter command
begins_so line (choose choice) h = first line (codes "kind " ++ name_of choice) h
begins_so line (add value key) h = elim h.2 [
  | inl alone ↦ first line (codes "+ " ++ h.0) alone.0
  | inr with_key ↦ first line ((codes "+ " ++ h.0) ++ 32 ∷ key) with_key
]
begins_so line build h = first line (codes "build") h
begins_so line (query key) h = elim h [
  | inl alone ↦ first line (codes "?") alone.0
  | inr with_key ↦ first line (codes "?" ++ 32 ∷ key) with_key
]
begins_so line list h = first line (codes "list") h
begins_so line (walk ops) h = first line (codes "walk " ++ h.0) h.1

-- a line that begins with another letter than a command is not this command
not_the : (line text : List ℕ) (command : Command) → line ≡ text → IsCommand line command → (get_or text 0 0 == letter command) ≡ false → ⊥
not_the line text command e h other = eqb-false (get_or text 0 0) (letter command) other (sym (first line text e) ∙ begins_so line command h)

no_kind : (line name : List ℕ) → line ≡ codes "kind " ++ name → ((choice : _) → name ≢ name_of choice) → IsNoCommand line
no_kind line name e none (choose choice) h = none choice (same_rest (codes "kind ") name (name_of choice) (sym e ∙ h))
no_kind line name e none (add value key) h = not_the line (codes "kind " ++ name) (add value key) e h refl
no_kind line name e none build h = not_the line (codes "kind " ++ name) build e h refl
no_kind line name e none (query key) h = not_the line (codes "kind " ++ name) (query key) e h refl
no_kind line name e none list h = not_the line (codes "kind " ++ name) list e h refl
no_kind line name e none (walk ops) h = not_the line (codes "kind " ++ name) (walk ops) e h refl

no_value : (line : List ℕ) (bad : BadLine) → IsNoPair line bad → IsNoCommand line
no_value line bad why (add value key) h = no_pair_line line 43 32 why.0 (before_first (λ b. b == 32) why.0) why.1 refl (no_number (before_first (λ b. b == 32) why.0) bad why.2) h.0 key value h.1 h.2
no_value line bad why (choose choice) h = not_the line (codes "+ " ++ why.0) (choose choice) why.1 h refl
no_value line bad why build h = not_the line (codes "+ " ++ why.0) build why.1 h refl
no_value line bad why (query key) h = not_the line (codes "+ " ++ why.0) (query key) why.1 h refl
no_value line bad why list h = not_the line (codes "+ " ++ why.0) list why.1 h refl
no_value line bad why (walk ops) h = not_the line (codes "+ " ++ why.0) (walk ops) why.1 h refl

no_calls : (line text : List ℕ) → line ≡ codes "walk " ++ text → ((ops : _) → AreOps (words_of text) ops → ⊥) → IsNoCommand line
no_calls line text e none (walk ops) h =
    none ops (subst (λ t. AreOps (words_of t) ops) (same_rest (codes "walk ") h.0 text (sym h.1 ∙ e)) h.2)
no_calls line text e none (choose choice) h = not_the line (codes "walk " ++ text) (choose choice) e h refl
no_calls line text e none (add value key) h = not_the line (codes "walk " ++ text) (add value key) e h refl
no_calls line text e none build h = not_the line (codes "walk " ++ text) build e h refl
no_calls line text e none (query key) h = not_the line (codes "walk " ++ text) (query key) e h refl
no_calls line text e none list h = not_the line (codes "walk " ++ text) list e h refl

-- a line in which this is bad is no command
pub bad_is_none : (line : List ℕ) (bad : BadLine) → IsBadAs line bad → IsNoCommand line
bad_is_none line CarriageReturn h = h.1
bad_is_none line NoCommand h = h
bad_is_none line UnknownKind h = no_kind line h.0 h.1 h.2
bad_is_none line NoValue h = no_value line NoValue h
bad_is_none line NoNumber h = no_value line NoNumber h
bad_is_none line TooManyDigits h = no_value line TooManyDigits h
bad_is_none line TooLarge h = no_value line TooLarge h
bad_is_none line NoCall h = no_calls line h.0 h.1 h.2
bad_is_none line NoKind h = absurd h
bad_is_none line WalkUnderAuto h = absurd h

-- a line that begins as none of the commands does, and is none of those that are one word
pub no_words_of_any : (line : List ℕ) → begins line (codes "kind ") ≡ false → begins line (codes "+ ") ≡ false → line ≢ codes "build" → line ≢ codes "list" → ((key : List ℕ) → HasKey (codes "?") key line → ⊥) → ((text : List ℕ) → line ≢ codes "walk " ++ text) → IsNoCommand line
no_words_of_any line k p b l q w (choose choice) h = not_stripped line (codes "kind ") k (name_of choice) h
no_words_of_any line k p b l q w (add value key) h = elim h.2 [
  | inl alone ↦ not_stripped line (codes "+ ") p h.0 alone.0
  | inr with_key ↦ not_stripped line (codes "+ ") p (h.0 ++ 32 ∷ key) with_key
]
no_words_of_any line k p b l q w build h = b h
no_words_of_any line k p b l q w (query key) h = q key h
no_words_of_any line k p b l q w list h = l h
no_words_of_any line k p b l q w (walk ops) h = w h.0 h.1
