use Rattle.std.proofs.Common.{drop, ◌≡◌, ◌++◌}
use Rattle.std.specs.Prelude.{option_map}
use Rattle.json.specs.Value.{members_view}
use Rattle.zerotrie_making.specs.Json.{member_pairs}
use Rattle.zerotrie_making.proofs.json_pairs.pairs_of_members.Given as goal

abbrev pub invariant-loop-key : goal.invariant-loop-key
invariant-loop-key l = option_map (λ more. l.table ++ more) (member_pairs (members_view (drop l.key-index l.members))) ≡ member_pairs (members_view l.members)
