-- Text that is written to a cursor.
use Rattle.std.specs.Prelude.{◌≡◌, ℕ, List, [], ◌∷◌, Option, nat_lt, if◌then◌else◌}
use Rattle.zerotrie_core.specs.Kind.{Kind}
use Rattle.zerotrie_core.specs.Maps.{Pairs, value_at}
use Rattle.zerotrie_core.specs.Texts.{Lists}
use Rattle.zerotrie_core.specs.Machine.{after_steps}

-- the bytes before the first one that is not ASCII
abbrev pub ascii_front : List ℕ → List ℕ
ascii_front [] = []
ascii_front (b ∷ bytes) = if nat_lt b 128 then b ∷ ascii_front bytes else []

-- the new bytes list what a step by each byte of the key leaves of the pairs that the old ones list
abbrev pub StepsBy : Kind → List ℕ → List ℕ → List ℕ → Type 0
StepsBy kind old key new = (pairs : Pairs) → Lists kind old pairs → Lists kind new (after_steps kind key pairs)

-- the answer is the value of the empty key
abbrev pub HasValue : Kind → List ℕ → Option ℕ → Type 0
HasValue kind bytes answer = (pairs : Pairs) → Lists kind bytes pairs → answer ≡ value_at kind pairs []
