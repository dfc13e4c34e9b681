-- What is printed of keys and texts that a trie is asked for.
use Rattle.std.specs.Prelude.{◌≡◌, ◌⊎◌, ℕ, List, [], ◌∷◌, ◌++◌, ◌&&◌, map, length, nat_lt, Option, Some, None, Bool, true, false, is_some, codes}
use Rattle.std.specs.Borrow.{Bor}
use Rattle.std.specs.Io.KnownBytes.{Appends}
use Rattle.std.specs.List.{filter}
use Rattle.zerotrie_core.specs.Kind.{Kind}
use Rattle.zerotrie_core.specs.Maps.{Map, look}
use Rattle.zerotrie_core.specs.Prefixes.{IsLongest, fronts}
use Rattle.zerotrie_core.specs.Borders.{at_borders, is_border}
use Rattle.zerotrie_files.specs.Parts.{AppendsPart}
use Rattle.zerotrie_lines.specs.Escapes.{Spells}
use Rattle.zerotrie_lines.specs.Numbers.{IsNumber}
use Rattle.zerotrie_queries.specs.Finders.{Dictionary, IndexFinds}
use Rattle.zerotrie_queries.specs.Printed.{value_line, key_line, found_line, front_lines, fronts_text, first_key_line}
use Rattle.zerotrie_queries.specs.declared.question.Asked.{Asked}
use Rattle.zerotrie_queries.specs.declared.question.Asked.TheVariants.{Value, Pair, Longest, LongestAt, Prefixes, KeyOf}
use Rattle.zerotrie_queries.specs.declared.question.Spelling.{Spelling}
use Rattle.zerotrie_queries.specs.declared.question.Spelling.TheVariants.{Plain, Escaped}
use Rattle.zerotrie_queries.specs.declared.question.Query.{Query}

-- the values of keys that are borrowed
abbrev pub answers : Kind → Map → List (Bor (List ℕ)) → List (Option ℕ)
answers kind m keys = map (λ key. look kind m key.now) keys

-- a text is no number below 2 ^ 64
abbrev pub IsNoNumber : List ℕ → Type 0
IsNoNumber text = (value : ℕ) → IsNumber text value → ⊥

-- the first key of the value that a text is, and none if it is no number
abbrev pub IsKeyOf : (ℕ → Option (List ℕ)) → (text : List ℕ) → Option (List ℕ) → Type 0
IsKeyOf key_of text key = ((value : ℕ) × IsNumber text value × (key ≡ key_of value)) ⊎ (IsNoNumber text × (key ≡ None))

-- whether a key of this length, with which a text begins, ends at a border of the text, if that is asked for
abbrev pub ends_at : (border : Option ℕ) → (text : List ℕ) → (len : ℕ) → Bool
ends_at None text len = true
ends_at (Some delimiter) text len = is_border (delimiter ∷ []) text len

-- those of the keys that a text begins with that do
abbrev pub fronts_at : (border : Option ℕ) → (text : List ℕ) → List (ℕ × ℕ) → List (ℕ × ℕ)
fronts_at border text keys = filter (λ (r : ℕ × ℕ). ends_at border text r.0) keys

-- their lines were added, and it is known whether there is one
abbrev pub AddsFronts : (border : Option ℕ) → (text old new : List ℕ) → (keys : List (ℕ × ℕ)) → (found : Bool) → Type 0
AddsFronts border text old new keys found = (new ≡ old ++ front_lines text (fronts_at border text keys)) × (found ≡ nat_lt 0 (length (fronts_at border text keys)))

-- what is printed of a text that was asked for, and whether it was found
abbrev pub IsAnswer : Asked → Dictionary → (text printed : List ℕ) → (found : Bool) → Type 0
IsAnswer Value d key printed found = let value = d.value_of key in (printed ≡ value_line value) × (found ≡ is_some value)
IsAnswer Pair d key printed found = let value = d.value_of key in (printed ≡ key_line key value) × (found ≡ is_some value)
IsAnswer Longest d text printed found = (r : Option (ℕ × ℕ)) × IsLongest d.value_of text (length text) r × (printed ≡ found_line text r) × (found ≡ is_some r)
IsAnswer (LongestAt delimiter) d text printed found = (r : Option (ℕ × ℕ)) × IsLongest (at_borders (delimiter ∷ []) text d.value_of) text (length text) r
    × (printed ≡ found_line text r) × (found ≡ is_some r)
IsAnswer (Prefixes border) d text printed found = let keys = fronts_at border text (fronts d.value_of 0 text) in (printed ≡ fronts_text text keys) × (found ≡ nat_lt 0 (length keys))
IsAnswer KeyOf d text printed found = (key : Option (List ℕ)) × IsKeyOf d.key_of text key × (printed ≡ first_key_line key) × (found ≡ is_some key)

-- an escape of a text is malformed, so it spells nothing
abbrev pub SpellsNone : List ℕ → Type 0
SpellsNone text = (key : List ℕ) → Spells text key → ⊥

-- what is printed of a text that is written so: of the text as it is; or of the bytes that it spells, and none if it spells none
abbrev pub IsAnswerAs : Spelling → Asked → Dictionary → (text printed : List ℕ) → (found : Bool) → Type 0
IsAnswerAs Plain asked d text printed found = IsAnswer asked d text printed found
IsAnswerAs Escaped asked d text printed found = ((key : List ℕ) × Spells text key × IsAnswer asked d key printed found)
    ⊎ (SpellsNone text × (printed ≡ codes "none\n") × (found ≡ false))

-- what is asked of texts that are written as they are, and of texts that are written with escapes
abbrev pub as_is : Asked → Query
as_is asked = record { asked = asked; spelling = Plain }

abbrev pub with_escapes : Asked → Query
with_escapes asked = record { asked = asked; spelling = Escaped }

-- what is printed of texts, one after another, and whether all was found
abbrev pub Belongs : Query → Dictionary → List (List ℕ) → (printed : List ℕ) → (all : Bool) → Type 0
Belongs query d [] printed all = (printed ≡ []) × (all ≡ true)
Belongs query d (text ∷ texts) printed all = (first rest : List ℕ) × (found others : Bool) × IsAnswerAs query.spelling query.asked d text first found × Belongs query d texts rest others
    × (printed ≡ first ++ rest) × (all ≡ (found && others))

-- what was printed belongs to texts and to what was asked of them, whichever dictionary it may be
abbrev pub AreAnswered : Query → (Dictionary → Type 0) → (texts : List (List ℕ)) → (old new : Option (List ℕ)) → (all : Bool) → Type 0
AreAnswered query MayHave texts old new all = (d : Dictionary) → MayHave d → (printed : List ℕ) × Belongs query d texts printed all × Appends old new printed

-- a beginning of what belongs to texts and to what was asked of them was printed, whichever dictionary it may be
abbrev pub AreAnsweredInPart : Query → (Dictionary → Type 0) → (texts : List (List ℕ)) → (old new : Option (List ℕ)) → Type 0
AreAnsweredInPart query MayHave texts old new = (d : Dictionary) → MayHave d
    → (printed : List ℕ) × (all : Bool) × Belongs query d texts printed all × AppendsPart old new printed

-- the answer to a text was added to a buffer
abbrev pub AddsAnswer : Query → Dictionary → (text old new : List ℕ) → (found : Bool) → Type 0
AddsAnswer query d text old new found = (printed : List ℕ) × IsAnswerAs query.spelling query.asked d text printed found × (new ≡ old ++ printed)

-- it was, whichever dictionary it may be
abbrev pub IsAdded : Query → (Dictionary → Type 0) → (text old new : List ℕ) → (found : Bool) → Type 0
IsAdded query MayHave text old new found = (d : Dictionary) → MayHave d → AddsAnswer query d text old new found

-- the answer of each index whose bytes may be held was added to a buffer
abbrev pub IsAddedAt : (List ℕ → Type 0) → Query → (text old new : List ℕ) → (found : Bool) → Type 0
IsAddedAt MayHold query text old new found = (bytes : List ℕ) → MayHold bytes → IsAdded query (IndexFinds query.asked bytes) text old new found

-- the answers to texts were, one after another
abbrev pub AreAddedAt : (List ℕ → Type 0) → Query → (texts : List (List ℕ)) → (old new : List ℕ) → (all : Bool) → Type 0
AreAddedAt MayHold query texts old new all = (bytes : List ℕ) → MayHold bytes → (d : Dictionary) → IndexFinds query.asked bytes d
    → (printed : List ℕ) × Belongs query d texts printed all × (new ≡ old ++ printed)
