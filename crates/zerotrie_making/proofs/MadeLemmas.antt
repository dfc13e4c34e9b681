-- What a build of the pairs answers is what one of the input does.
use Rattle.std.proofs.Common.{◌≡◌, ℕ, List, length, Bool, true, false, subst, refl, ◌∙◌, sym}
use Rattle.std.proofs.lemmas.List.{length-map}
use Rattle.std.specs.Borrow.{Bor}
use Rattle.zerotrie_core.specs.Items.{pairs_of}
use Rattle.std.specs.Prelude.{None, Some}
use Rattle.zerotrie_core.specs.Maps.{Pairs}
use Rattle.zerotrie_lines.specs.Tables.{lowered}
use Rattle.zerotrie_lines.specs.Reads.{Reads}
use Rattle.zerotrie_lines.specs.declared.reading.TextForm.{TextForm}
use Rattle.zerotrie_making.specs.Others.{IsOther}
use Rattle.zerotrie_making.specs.Sources.{IsPairs, NoPairs, number_in_source}
use Rattle.zerotrie_making.specs.Made.{OfInput, Explains, ExplainsKept, ExplainsOf}
use Rattle.zerotrie_core.specs.declared.ZeroTrieBuildError.{ZeroTrieBuildError}
use Rattle.zerotrie_index.specs.declared.error.ZeroIndexBuildError.{ZeroIndexBuildError}
use Rattle.zerotrie_making.specs.declared.others.OtherFile.{OtherFile}
use Rattle.zerotrie_making.specs.declared.plan.Plan.{Plan}
use Rattle.zerotrie_making.specs.declared.plan.Source.{Source}
use Rattle.zerotrie_making.specs.declared.plan.Source.TheVariants.{Text, Json, JsonLines}
use Rattle.zerotrie_making.specs.Kept.{kept, number_at}
use Rattle.zerotrie_making.specs.declared.error.NumberedKey.{NumberedKey}
use Rattle.zerotrie_making.specs.declared.error.Shown.{Shown}
use Rattle.zerotrie_making.specs.declared.error.MakeError.{MakeError}
use Rattle.zerotrie_making.specs.declared.error.MakeError.TheVariants.{NotText, Line, NotJson, NotPairs, NotPair, Keys, SumTooLarge, Refused, IndexRefused, OutOfMemory}

pub of_table : (plan : Plan) (input : List ℕ) (table : Pairs) (Fact : Pairs → Type 0) → IsOther input None → (pairs : Pairs) × IsPairs plan.read.source input pairs × (table ≡ lowered plan.read.lower_case pairs)
    → Fact table → OfInput plan input Fact
of_table plan input table Fact own h fact = (own, h.0, h.1, subst Fact h.2 fact)

pub explains_of : (plan : Plan) (input : List ℕ) (table : Pairs) (e : MakeError) → IsOther input None → (pairs : Pairs) × IsPairs plan.read.source input pairs × (table ≡ lowered plan.read.lower_case pairs)
    → ExplainsKept plan (number_in_source plan.read.source) table e → Explains plan input e
explains_of plan input table (NotText other) own h fact = absurd fact
explains_of plan input table (Line number bad) own h fact = absurd fact
explains_of plan input table (NotJson line column) own h fact = absurd fact
explains_of plan input table NotPairs own h fact = absurd fact
explains_of plan input table (NotPair bad) own h fact = absurd fact
explains_of plan input table (Keys s) own h fact = of_table plan input table (λ pairs. ExplainsKept plan (number_in_source plan.read.source) pairs (Keys s)) own h fact
explains_of plan input table (SumTooLarge k) own h fact = of_table plan input table (λ pairs. ExplainsKept plan (number_in_source plan.read.source) pairs (SumTooLarge k)) own h fact
explains_of plan input table (Refused e) own h fact = of_table plan input table (λ pairs. ExplainsKept plan (number_in_source plan.read.source) pairs (Refused e)) own h fact
explains_of plan input table (IndexRefused e) own h fact = of_table plan input table (λ pairs. ExplainsKept plan (number_in_source plan.read.source) pairs (IndexRefused e)) own h fact
explains_of plan input table OutOfMemory own h fact = tt

-- why no file is made of pairs that are kept is why none is made of all
pub kept_refusal : (plan : Plan) (pairs : Pairs) (e : MakeError) → ExplainsOf plan.file (number_at plan.read.duplicates pairs) (kept plan.read.duplicates pairs) e → ExplainsKept plan (λ n. n) pairs e
kept_refusal plan pairs (NotText other) h = h
kept_refusal plan pairs (Line number bad) h = h
kept_refusal plan pairs (NotJson line column) h = h
kept_refusal plan pairs NotPairs h = h
kept_refusal plan pairs (NotPair bad) h = h
kept_refusal plan pairs (Keys s) h = h
kept_refusal plan pairs (SumTooLarge k) h = absurd h
kept_refusal plan pairs (Refused e) h = h
kept_refusal plan pairs (IndexRefused e) h = h
kept_refusal plan pairs OutOfMemory h = h

-- an input that is no pairs shows no keys
no_keys : (source : Source) (input : List ℕ) (s : Shown) → NoPairs source input (Keys s) → ⊥
no_keys (Text form) input s h = h
no_keys Json input s h = h
no_keys (JsonLines names) input s h = h

no_sum : (source : Source) (input : List ℕ) (k : NumberedKey) → NoPairs source input (SumTooLarge k) → ⊥
no_sum (Text form) input k h = h
no_sum Json input k h = h
no_sum (JsonLines names) input k h = h

no_refusal : (source : Source) (input : List ℕ) (e : ZeroTrieBuildError) → NoPairs source input (Refused e) → ⊥
no_refusal (Text form) input e h = h
no_refusal Json input e h = h
no_refusal (JsonLines names) input e h = h

no_index_refusal : (source : Source) (input : List ℕ) (e : ZeroIndexBuildError) → NoPairs source input (IndexRefused e) → ⊥
no_index_refusal (Text form) input e h = h
no_index_refusal Json input e h = h
no_index_refusal (JsonLines names) input e h = h

-- an input that is another file is no pairs
pub other_is_unread : (source : Source) (input : List ℕ) (other : OtherFile) → IsOther input (Some other) → NoPairs source input (NotText other)
other_is_unread (Text form) input other h = h
other_is_unread Json input other h = h
other_is_unread (JsonLines names) input other h = h

-- an input that is no pairs makes no file
pub no_pairs : (plan : Plan) (input : List ℕ) (e : MakeError) → NoPairs plan.read.source input e → Explains plan input e
no_pairs plan input (NotText other) h = h
no_pairs plan input (Line number bad) h = h
no_pairs plan input (NotJson line column) h = h
no_pairs plan input NotPairs h = h
no_pairs plan input (NotPair bad) h = h
no_pairs plan input (Keys s) h = absurd (no_keys plan.read.source input s h)
no_pairs plan input (SumTooLarge k) h = absurd (no_sum plan.read.source input k h)
no_pairs plan input (Refused e) h = absurd (no_refusal plan.read.source input e h)
no_pairs plan input (IndexRefused e) h = absurd (no_index_refusal plan.read.source input e h)
no_pairs plan input OutOfMemory h = tt

-- pairs of a text whose keys are as they are
pub as_they_are : (source : Source) (form : TextForm) (lower_case : Bool) (input : List ℕ) (pairs : Pairs) → source ≡ Text form → lower_case ≡ false
    → Reads form input pairs → (given : Pairs) × IsPairs source input given × (pairs ≡ lowered lower_case given)
as_they_are source form true input pairs text kept reads = absurd (cc)
as_they_are source form false input pairs text kept reads = (pairs, rw text reads, refl)

-- as many items are as many pairs
pub counted_pairs : (items : List (Bor (List ℕ) × ℕ)) (len : ℕ) → len ≡ length items → len ≡ length (pairs_of items)
counted_pairs items len is = is ∙ sym (length-map items _)
