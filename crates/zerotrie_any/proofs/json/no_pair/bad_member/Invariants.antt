use Rattle.std.proofs.Common.{◌≡◌}
use Rattle.serde_json.specs.View.{members_view}
use Rattle.zerotrie_any.specs.JsonCalls.{first_member}
use Rattle.zerotrie_any.proofs.json.no_pair.bad_member.Given as goal

abbrev pub invariant-loop-name : goal.invariant-loop-name
invariant-loop-name l = first_member (members_view l.name-iterator) ≡ first_member (members_view l.members.entries)
