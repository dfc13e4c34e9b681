use Rattle.std.proofs.Common.{◌≡◌}
use Rattle.zerotrie_sets.specs.Streams.{turns}
use Rattle.zerotrie_sets.specs.Choices.{chosen_left}
use Rattle.zerotrie_sets.proofs.choice.next_chosen.Given as goal

abbrev pub invariant-loop-rows : goal.invariant-loop-rows
invariant-loop-rows g l =
    chosen_left (g.C.Choice.choose l.choice) l.rows.left ≡ chosen_left (g.C.Choice.choose l.choice) l.initial.rows.left

abbrev pub decreases-loop-rows : goal.decreases-loop-rows
decreases-loop-rows g l = turns l.rows.left
