-- The pair in a line of JSON.
use Rattle.std.proofs.Common.{◌≡◌, ℕ, List, Some, None, refl, subst}
use Rattle.std.specs.Prelude.{IsUtf8}
use Rattle.std.proofs.lemmas.Str.{is_utf8-from_IsUtf8}
use Rattle.json.specs.Json.{Json, document}
use Rattle.zerotrie_any.proofs.MemberLemmas.{not_utf8}
use Rattle.zerotrie_lines.specs.declared.reading.Names.{Names}
use Rattle.zerotrie_making.specs.JsonLines.{pair_in_line, row_in}

-- a line that is no text has none
pub no_text : (names : Names) (line : List ℕ) → (IsUtf8 line → ⊥) → pair_in_line names line ≡ None
no_text names line none = rw (not_utf8 line none) refl

-- one that is the text of a value has that of the value
pub of_value : (names : Names) (line text : List ℕ) (j : Json) → IsUtf8 line → text ≡ line → document text ≡ Some j → pair_in_line names line ≡ row_in names j
of_value names line text j is same read =
    let here : document line ≡ Some j = subst (λ t. document t ≡ Some j) same read in rw (is_utf8-from_IsUtf8 line is, here) refl
