-- Pairs whose keys are parts of a text.
use Rattle.std.specs.Prelude.{ℕ, ◌+◌, ◌≤◌, List, length, take, drop, map, All}
use Rattle.zerotrie_base.specs.Maps.{Pairs}
use Rattle.zerotrie_index.specs.declared.lent.Mark.{Mark}

-- the part of the text, with the value
abbrev pub marked : List ℕ → Mark → List ℕ × ℕ
marked text m = (take m.len (drop m.start text), m.value)

-- the pairs of all marks
abbrev pub marked_pairs : List ℕ → List Mark → Pairs
marked_pairs text marks = map (marked text) marks

-- the parts lie in the text
abbrev pub LieIn : List ℕ → List Mark → Type 0
LieIn text marks = All (λ m. m.start + m.len ≤ length text) marks
