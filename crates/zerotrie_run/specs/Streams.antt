-- What was answered of an input that could not be read to its end.
use Rattle.std.specs.Prelude.{◌≡◌, ℕ, List, ◌++◌, Option, Bool, true, false, ◌⊎◌}
use Rattle.std.specs.Io.KnownBytes.{Consumes}
use Rattle.csv.specs.Reading.{strip_bom}
use Rattle.zerotrie_files.specs.Faults.{IsOutOfMemory}
use Rattle.zerotrie_lines.specs.Blocks.{AreWhole, HasFeed}
use Rattle.zerotrie_queries.specs.Finders.{Dictionary}
use Rattle.zerotrie_queries.specs.Answers.{AreAnswered}
use Rattle.zerotrie_queries.specs.declared.question.Query.{Query}
use Rattle.zerotrie_making.specs.Others.{HasUtf16Mark}
use Rattle.zerotrie_run.specs.Runs.{key_lines}
use Rattle.zerotrie_run.specs.declared.stdin_lines.AnswerError.{AnswerError}
use Rattle.zerotrie_run.specs.declared.stdin_lines.AnswerError.TheVariants.{Input, NoLines, Output}

-- lines as text: a byte order mark in front of the first lines of an input is left out
abbrev pub text_behind : Bool → List ℕ → List ℕ
text_behind true lines = strip_bom lines
text_behind false lines = lines

-- what was read of an input has no line feed, or begins with the byte order mark of UTF-16
abbrev pub IsUnsettled : (input left : Option (List ℕ)) → Type 0
IsUnsettled input left = (front : List ℕ) × Consumes input left front × (((k : ℕ) → HasFeed front k → ⊥) ⊎ HasUtf16Mark front)

-- what was read of an input may be a text in UTF-16, and nothing was printed
abbrev pub MayBeUtf16 : (input left old new : Option (List ℕ)) → Type 0
MayBeUtf16 input left old new = (front : List ℕ) × Consumes input left front × HasUtf16Mark front × (new ≡ old)

-- What was read of an input: whole lines, and after them a part of one. The lines were answered, and the answers handed on.
pub record WholeAnswered (query : Query) (MayHave : Dictionary → Type 0) (input left old new : Option (List ℕ)) (IsHanded : Type 0) : Type 0 where
  pub whole : List ℕ
  pub part : List ℕ
  pub read : Consumes input left (whole ++ part)
  pub lines : AreWhole whole
  pub no_more : (k : ℕ) → HasFeed part k → ⊥
  pub all : Bool
  pub answered : AreAnswered query MayHave (key_lines whole) old new all
  pub handed : IsHanded

-- if it is the input that failed, and not memory, all whole lines before were answered, unless what was read may be UTF-16
abbrev pub AreAnsweredSoFar : Query → (Dictionary → Type 0) → (input left old new : Option (List ℕ)) → Type 0 → AnswerError → Type 0
AreAnsweredSoFar query MayHave input left old new IsHanded (Input e) = IsOutOfMemory e ⊎ (WholeAnswered query MayHave input left old new IsHanded ⊎ MayBeUtf16 input left old new)
AreAnsweredSoFar query MayHave input left old new IsHanded (NoLines other) = Unit {0}
AreAnsweredSoFar query MayHave input left old new IsHanded (Output e) = Unit {0}
