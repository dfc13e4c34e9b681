-- An input that is no pairs.
use Rattle.std.proofs.Common.{◌≡◌, ◌≢◌, ℕ, List, Option, Some, None, refl, sym, ◌∙◌, ap}
use Rattle.zerotrie_lines.specs.Tables.{Pairs}
use Rattle.zerotrie_lines.specs.Laws.{BadIsUnread}
use Rattle.json.specs.Json.{Json as Value}
use Rattle.zerotrie_making.specs.Json.{pairs_in}
use Rattle.zerotrie_making.specs.Others.{IsOther}
use Rattle.zerotrie_making.specs.Sources.{IsJson, IsPairs, NoPairs}
use Rattle.zerotrie_making.specs.declared.others.OtherFile.{OtherFile}
use Rattle.zerotrie_making.specs.declared.others.OtherFile.TheVariants.{Utf16, Gzip, Sealed}
use Rattle.zerotrie_making.specs.declared.plan.Source.{Source}
use Rattle.zerotrie_making.specs.declared.plan.Source.TheVariants.{Text, Json, JsonLines}
use Rattle.zerotrie_making.specs.declared.error.MakeError.{MakeError}
use Rattle.zerotrie_making.specs.declared.error.MakeError.TheVariants.{NotText, Line, NotJson, NotPairs, NotPair, Keys, SumTooLarge, Refused, IndexRefused, OutOfMemory}

pub some_is : {A : Type 0} (a b : A) → Some a ≡ Some b → a ≡ b
some_is {A} a b e = ap (inside a) e
  where
    inside : A → Option A → A
    inside d None = d
    inside d (Some x) = x

-- a value without pairs
no_value : (input : List ℕ) (j k : Value) (pairs : Pairs) → IsJson input j → IsJson input k → pairs_in j ≡ None → pairs_in k ≡ Some pairs → ⊥
no_value input j k pairs h p none some =
    let same : j ≡ k = some_is j k (sym h.1 ∙ p.1) in absurd (cc (sym none ∙ ap pairs_in same ∙ some))

-- an input that is another file is not none of them
not_both : (input : List ℕ) (other : OtherFile) → IsOther input (Some other) → IsOther input None → ⊥
not_both input Utf16 is none = none.0 is
not_both input Gzip is none = none.1 is
not_both input Sealed is none = none.2 is

pub no_file : BadIsUnread → (source : Source) (input : List ℕ) (e : MakeError) (pairs : Pairs) → IsOther input None → NoPairs source input e → e ≢ OutOfMemory → IsPairs source input pairs → ⊥
no_file bad (Text form) input (NotText other) pairs own h some p = not_both input other h own
no_file bad Json input (NotText other) pairs own h some p = not_both input other h own
no_file bad (Text form) input (Line number fault) pairs own h some p = bad form input number fault pairs h p
no_file bad (Text form) input (NotJson line column) pairs own h some p = h
no_file bad (Text form) input NotPairs pairs own h some p = h
no_file bad (Text form) input (NotPair why) pairs own h some p = h
no_file bad (Text form) input (Keys s) pairs own h some p = h
no_file bad (Text form) input (SumTooLarge k) pairs own h some p = h
no_file bad (Text form) input (Refused e) pairs own h some p = h
no_file bad (Text form) input (IndexRefused e) pairs own h some p = h
no_file bad (Text form) input OutOfMemory pairs own h some p = some refl
no_file bad Json input (Line number fault) pairs own h some p = h
no_file bad Json input (NotJson line column) pairs own h some p = absurd (cc (sym (h.0 p.1.0) ∙ p.1.1))
no_file bad Json input NotPairs pairs own h some p = no_value input h.0 p.0 pairs h.1 p.1 h.2 p.2
no_file bad Json input (NotPair why) pairs own h some p = no_value input h.0 p.0 pairs h.1 p.1 h.2 p.2
no_file bad Json input (Keys s) pairs own h some p = h
no_file bad Json input (SumTooLarge k) pairs own h some p = h
no_file bad Json input (Refused e) pairs own h some p = h
no_file bad Json input (IndexRefused e) pairs own h some p = h
no_file bad Json input OutOfMemory pairs own h some p = some refl
no_file bad (JsonLines names) input (NotText other) pairs own h some p = not_both input other h own
no_file bad (JsonLines names) input (Line number fault) pairs own h some p = h
no_file bad (JsonLines names) input (NotJson line column) pairs own h some p = h
no_file bad (JsonLines names) input NotPairs pairs own h some p = absurd (cc (sym h.0 ∙ p))
no_file bad (JsonLines names) input (NotPair why) pairs own h some p = absurd (cc (sym h.0 ∙ p))
no_file bad (JsonLines names) input (Keys s) pairs own h some p = h
no_file bad (JsonLines names) input (SumTooLarge k) pairs own h some p = h
no_file bad (JsonLines names) input (Refused e) pairs own h some p = h
no_file bad (JsonLines names) input (IndexRefused e) pairs own h some p = h
no_file bad (JsonLines names) input OutOfMemory pairs own h some p = some refl
