use Rattle.std.proofs.Common.{◌≡◌, ◌++◌}
use Rattle.std.specs.Prelude.{option_map}
use Rattle.serde_json.specs.View.{members_view}
use Rattle.zerotrie_core.specs.Items.{keyed}
use Rattle.zerotrie_any.specs.Json.{member_pairs}
use Rattle.zerotrie_any.proofs.json.reading.pairs_of_members.Given as goal

abbrev pub invariant-loop-key : goal.invariant-loop-key
invariant-loop-key l = option_map (λ more. keyed (λ key. key.items) l.pairs.items ++ more) (member_pairs (members_view l.key-iterator)) ≡ member_pairs (members_view l.members.entries)
