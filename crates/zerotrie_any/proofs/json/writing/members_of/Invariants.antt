use Rattle.std.proofs.Common.{◌≡◌}
use Rattle.serde_json.specs.View.{members_view}
use Rattle.zerotrie_core.specs.Items.{keyed}
use Rattle.zerotrie_any.specs.Json.{members, are_text}
use Rattle.zerotrie_any.proofs.MemberLemmas.{put_all}
use Rattle.zerotrie_any.proofs.json.writing.members_of.Given as goal

abbrev pub invariant-loop-key : goal.invariant-loop-key
invariant-loop-key l = record {
  puts : put_all (keyed (λ key. key.items) l.key-iterator) (members_view l.members.entries) ≡ members (keyed (λ key. key.items) l.entries.entries);
  text : are_text (keyed (λ key. key.items) l.key-iterator) ≡ are_text (keyed (λ key. key.items) l.entries.entries);
}
