use Rattle.std.proofs.Common.{drop, ◌≡◌}
use Rattle.json.specs.Value.{members_view}
use Rattle.zerotrie_making.specs.Unread.{first_member}
use Rattle.zerotrie_making.proofs.json_pairs.first_member.Given as goal

abbrev pub invariant-loop-key : goal.invariant-loop-key
invariant-loop-key l = first_member (members_view (drop l.key-index l.members)) ≡ first_member (members_view l.members)
