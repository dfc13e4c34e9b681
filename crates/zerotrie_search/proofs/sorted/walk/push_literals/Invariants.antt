use Rattle.std.proofs.Common.{◌≡◌, ◌∷◌, ◌++◌, ℕ, List, [], length}
use Rattle.zerotrie_base.specs.Kind.{Kind}
use Rattle.zerotrie_search.specs.Walks.{HasRun}
use Rattle.zerotrie_search.proofs.sorted.walk.push_literals.Given as goal

-- a run went to the key, whose first byte is the literal
abbrev pub invariant-loop-next : goal.invariant-loop-next
invariant-loop-next g l = (kind : Kind) (front : List ℕ) → l.initial.key.items ≡ front ++ l.initial.literal ∷ [] → HasRun kind (l.initial.literal ∷ l.initial.after) front l.at l.key.items

abbrev pub decreases-loop-next : goal.decreases-loop-next
decreases-loop-next g l = length l.at
