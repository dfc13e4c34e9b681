-- Sets of keys.
use Rattle.std.specs.Prelude.{ℕ, List, [], ◌∷◌, Bool, true, false, Option, Some, None, ◌==◌, ◌||◌, is_some, if◌then◌else◌}
use Rattle.std.specs.Ordering.{nat_cmp}
use Rattle.std.specs.declared.cmp.Ordering.{Ordering}
use Rattle.std.specs.Range.Bound.{is_from_start, is_up_to_end}
use Rattle.std.specs.declared.ops.Bound.{Bound}
use Rattle.std.specs.Cmp.Lexicographic.{slice_cmp}
use Rattle.zerotrie_base.specs.Kind.{Kind}
use Rattle.zerotrie_base.specs.Maps.{after_run, begins_with}

-- whether a key begins with the rest of a front, if one is left
abbrev pub begins_left : Option (List ℕ) → List ℕ → Bool
begins_left None key = false
begins_left (Some left) key = is_some (after_run left key)

-- the same, as a kind compares bytes
abbrev pub begins_left_by : Kind → Option (List ℕ) → List ℕ → Bool
begins_left_by kind None key = false
begins_left_by kind (Some left) key = begins_with kind left key

-- whether a key has these bytes in this order, whatever comes before, between and after them
abbrev pub has_within : List ℕ → List ℕ → Bool
has_within [] key = true
has_within (b ∷ sought) [] = false
has_within (b ∷ sought) (c ∷ key) = if b == c then has_within sought key else has_within (b ∷ sought) key

-- the order of bytes
abbrev pub by_bytes : List ℕ → List ℕ → Option Ordering
by_bytes k l = Some (slice_cmp nat_cmp k l)

-- whether a key is within a lower bound, if one is left
abbrev pub from_left : Option (Bound (List ℕ)) → List ℕ → Bool
from_left None key = false
from_left (Some from) key = is_from_start by_bytes from key

-- whether a key is within an upper bound, if one is left
abbrev pub to_left : Option (Bound (List ℕ)) → List ℕ → Bool
to_left None key = false
to_left (Some to) key = is_up_to_end by_bytes to key

-- whether some front of a key is accepted
abbrev pub some_front : (List ℕ → Bool) → List ℕ → Bool
some_front accepts [] = accepts []
some_front accepts (b ∷ key) = accepts [] || some_front (λ rest. accepts (b ∷ rest)) key

-- the same from a state, or from where a front was accepted
abbrev pub some_front_from : {S : Type 0} → (S → List ℕ → Bool) → Option S → List ℕ → Bool
some_front_from accepts_from None key = true
some_front_from accepts_from (Some state) key = some_front (accepts_from state) key
