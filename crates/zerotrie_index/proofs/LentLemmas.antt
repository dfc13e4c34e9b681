-- Pairs whose keys are parts of a text.
use Rattle.std.specs.Prelude.{◌≡◌, ℕ, ◌+◌, ◌≤◌, [], ◌∷◌, ◌++◌, List, length, take, drop, zero, suc}
use Rattle.std.proofs.Common.{refl, ap, ◌∙◌, arith}
use Rattle.std.proofs.Math.Seq.{drop-append_seam}
use Rattle.std.proofs.lemmas.List.{take-append-le, drop-append-le, length-drop, take_all, map-append}
use Rattle.zerotrie_index.specs.Lent.{marked, marked_pairs, LieIn}
use Rattle.zerotrie_index.specs.declared.lent.Mark.{Mark}

-- a part of the text stays where more text follows
part_stays : (start len : ℕ) (text more : List ℕ) → start + len ≤ length text → take len (drop start (text ++ more)) ≡ take len (drop start text)
part_stays start len text more inside =
    ap (take len) (drop-append-le start text more (omega arith)) ∙ take-append-le len (drop start text) more (let rest = length-drop start text in omega arith)

pub pairs_stay : (text more : List ℕ) (marks : List Mark) → LieIn text marks → marked_pairs (text ++ more) marks ≡ marked_pairs text marks
pairs_stay text more [] lie = refl
pairs_stay text more (m ∷ marks) lie =
    ap (λ key. (key, m.value) ∷ marked_pairs (text ++ more) marks) (part_stays m.start m.len text more (lie zero m (omega arith)))
    ∙ ap (λ pairs. marked text m ∷ pairs) (pairs_stay text more marks (λ k d inside. lie (suc k) d (omega arith)))

-- one more pair
pub pairs_more : (text key : List ℕ) (marks : List Mark) (value start len : ℕ) → LieIn text marks → start ≡ length text → len ≡ length key
    → marked_pairs (text ++ key) (marks ++ record { start = start; len = len; value = value } ∷ []) ≡ marked_pairs text marks ++ (key, value) ∷ []
pairs_more text key marks value start len lie at long =
    map-append (marked (text ++ key)) marks (record { start = start; len = len; value = value } ∷ [])
    ∙ ap (λ pairs. pairs ++ marked (text ++ key) (record { start = start; len = len; value = value }) ∷ []) (pairs_stay text key marks lie)
    ∙ ap (λ own. marked_pairs text marks ++ (own, value) ∷ [])
    (ap (λ n. take len (drop n (text ++ key))) at ∙ ap (take len) (drop-append_seam text key) ∙ take_all len key (omega arith))
