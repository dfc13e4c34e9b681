-- The text of pairs as one JSON object.
use Rattle.std.proofs.Common.{◌≡◌, List, ℕ, [], ◌∷◌, ◌++◌, Bool, true, false, refl, sym, ◌∙◌, ap, append_assoc}
use Rattle.json.specs.Print.{quoted}
use Rattle.std.specs.Prelude.{decimal}
use Rattle.serde_json.specs.Written.{comma_if, members_text}
use Rattle.zerotrie_core.specs.Maps.{Pairs}
use Rattle.zerotrie_any.specs.Json.{members}
use Rattle.zerotrie_queries.specs.Json.{object_line, member_text, member_texts}

-- a member with its comma goes before the rest
regroup : (comma item rest end : List ℕ) → ((comma ++ item) ++ rest) ++ end ≡ comma ++ (item ++ (rest ++ end))
regroup comma item rest end = append_assoc (comma ++ item) rest end ∙ append_assoc comma item (rest ++ end)

members_line : (later : Bool) (pairs : Pairs) → member_texts later pairs ++ 125 ∷ 10 ∷ [] ≡ members_text later (members pairs) ++ 10 ∷ []
members_line later [] = refl
members_line later (e ∷ pairs) =
    let rest = members_text true (members pairs) in
    regroup (comma_if later) (member_text e) (member_texts true pairs) (125 ∷ 10 ∷ [])
    ∙ ap (λ l. comma_if later ++ (member_text e ++ l)) (members_line true pairs)
    ∙ ap (λ l. comma_if later ++ l)
    (sym (append_assoc (quoted e.0 ++ 58 ∷ decimal e.1) rest (10 ∷ [])) ∙ ap (λ l. l ++ 10 ∷ []) (append_assoc (quoted e.0) (58 ∷ decimal e.1) rest))
    ∙ sym (append_assoc (comma_if later) (quoted e.0 ++ 58 ∷ (decimal e.1 ++ rest)) (10 ∷ []))

-- pairs in braces are the text of their object
pub object_line-is : (pairs : Pairs) → ((123 ∷ []) ++ member_texts false pairs) ++ 125 ∷ 10 ∷ [] ≡ object_line pairs
object_line-is pairs = ap (λ l. 123 ∷ l) (members_line false pairs)
