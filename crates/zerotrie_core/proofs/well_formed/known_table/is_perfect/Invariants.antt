use Rattle.std.proofs.Common.{◌≡◌, ℕ, ◌<◌, get_or, Some}
use Rattle.zerotrie_base.specs.Hashes.{number_of}
use Rattle.zerotrie_core.proofs.well_formed.known_table.is_perfect.Given as goal

abbrev pub invariant-loop-index : goal.invariant-loop-index
invariant-loop-index l = (i : ℕ) → i < l.index → number_of l.table (get_or l.edges i 0) ≡ Some i
