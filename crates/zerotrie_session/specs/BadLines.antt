-- Why lines are no commands.
use Rattle.std.specs.Prelude.{None, ◌≡◌, ◌≢◌, ℕ, ◌^◌, ◌<◌, ◌≤◌, ◌+◌, ◌⊎◌, ◌==◌, List, [], ◌∷◌, ◌++◌, length, codes}
use Rattle.std.specs.List.{before_first}
use Rattle.zerotrie.specs.Machine.{Op}
use Rattle.zerotrie_session.specs.Numbers.{AreDigits, number_behind}
use Rattle.zerotrie_session.specs.Calls.{AreOps, words_of}
use Rattle.zerotrie_session.specs.Commands.{Command, IsCommand, name_of, walk}
use Rattle.zerotrie_session.specs.Answers.{CanDo}
use Rattle.zerotrie_session.specs.Lines.{lines_of}
use Rattle.zerotrie_session.specs.declared.command.Choice.{Choice}
use Rattle.zerotrie_session.specs.declared.command.BadLine.{BadLine}
use Rattle.zerotrie_session.specs.declared.command.BadLine.TheVariants.{CarriageReturn, NoCommand, UnknownKind, NoValue, NoNumber, TooManyDigits, TooLarge, NoCall, NoKind, WalkUnderAuto}

-- the line is no command
abbrev pub IsNoCommand : List ℕ → Type 0
IsNoCommand line = (command : Command) → IsCommand line command → ⊥

-- the line ends in a carriage return
abbrev pub EndsInReturn : List ℕ → Type 0
EndsInReturn line = (front : List ℕ) × (line ≡ front ++ 13 ∷ [])

-- the line begins with the words, and has a text like this after them
abbrev pub HasBehind : List ℕ → (List ℕ → Type 0) → List ℕ → Type 0
HasBehind words IsSo line = (text : List ℕ) × (line ≡ words ++ text) × IsSo text

-- why the bytes are no number
abbrev pub IsNoNumber : List ℕ → BadLine → Type 0
IsNoNumber digits NoValue = digits ≡ []
IsNoNumber digits NoNumber = AreDigits digits → ⊥
IsNoNumber digits TooManyDigits = 20 < length digits
IsNoNumber digits TooLarge = 2 ^ 64 ≤ number_behind 0 digits
IsNoNumber digits CarriageReturn = ⊥
IsNoNumber digits NoCommand = ⊥
IsNoNumber digits UnknownKind = ⊥
IsNoNumber digits NoCall = ⊥
IsNoNumber digits NoKind = ⊥
IsNoNumber digits WalkUnderAuto = ⊥

-- why a line that begins as a pair does is none: what is before the first space is no number
abbrev pub IsNoPair : List ℕ → BadLine → Type 0
IsNoPair line bad = HasBehind (codes "+ ") (λ text. IsNoNumber (before_first (λ b. b == 32) text) bad) line

-- what is bad in a line that is no command
abbrev pub IsBadAs : List ℕ → BadLine → Type 0
IsBadAs line CarriageReturn = EndsInReturn line × IsNoCommand line
IsBadAs line NoCommand = IsNoCommand line
IsBadAs line UnknownKind = HasBehind (codes "kind ") (λ name. (choice : Choice) → name ≢ name_of choice) line
IsBadAs line NoValue = IsNoPair line NoValue
IsBadAs line NoNumber = IsNoPair line NoNumber
IsBadAs line TooManyDigits = IsNoPair line TooManyDigits
IsBadAs line TooLarge = IsNoPair line TooLarge
IsBadAs line NoCall = HasBehind (codes "walk ") (λ text. (ops : List Op) → AreOps (words_of text) ops → ⊥) line
IsBadAs line NoKind = ⊥
IsBadAs line WalkUnderAuto = ⊥

-- the line is a command, and none that can be done before a kind is chosen
abbrev pub NeedsKind : List ℕ → Type 0
NeedsKind line = ((command : Command) × IsCommand line command) × ((command : Command) → IsCommand line command → CanDo None command → ⊥)

-- the line is a walk
abbrev pub IsWalkLine : List ℕ → Type 0
IsWalkLine line = (ops : List Op) × IsCommand line (walk ops)

-- what is bad in a line: as a command, that no kind is chosen yet, or that the kind has no walks
abbrev pub IsBadLine : List ℕ → BadLine → Type 0
IsBadLine line bad = IsBadAs line bad ⊎ ((bad ≡ NoKind) × NeedsKind line) ⊎ ((bad ≡ WalkUnderAuto) × IsWalkLine line)

-- the line of an input with this number, from 1 on, is bad, and why
abbrev pub HasBadLine : List ℕ → ℕ → BadLine → Type 0
HasBadLine input number bad = (before : List (List ℕ)) × (line : List ℕ) × (after : List (List ℕ)) × (lines_of input ≡ before ++ (line ∷ after))
    × (number ≡ length before + 1) × IsBadLine line bad
