use Rattle.std.proofs.Common.{◌≡◌, ◌∙◌, ℕ, List, Result, Ok, Err, sym}
use Rattle.std.specs.Prelude.{IsUtf8, MatchResult, is_ok}
use Rattle.std.specs.Str.{is_utf8}
use Rattle.std.proofs.lemmas.Str.{is_utf8-from_IsUtf8}
use Rattle.zerotrie_any.proofs.MemberLemmas.{not_utf8}
use Rattle.zerotrie_queries.proofs.text.is_text.Goals as goal

text_is : {T E : Type 0} (P : T → Type 0) (Q : E → Type 0) (r : Result T E) (key : List ℕ) → MatchResult r (λ s. P s × IsUtf8 key) (λ e. (IsUtf8 key → ⊥) × Q e)
    → is_ok r ≡ is_utf8 key
text_is P Q (Ok s) key h = sym (is_utf8-from_IsUtf8 key h.1)
text_is P Q (Err e) key h = sym (not_utf8 key h.0)

pub returns : goal.returns
returns c = c.is_ok.ensures.value ∙ text_is _ _ c.from_utf8.result c.args.bytes.now c.from_utf8.ensures.cases
