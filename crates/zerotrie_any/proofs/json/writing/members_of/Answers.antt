use Rattle.std.proofs.Common.{◌≡◌, refl, rules, arith, true, false}
use Rattle.std.proofs.lemmas.Grind.{common_steps}
use Rattle.std.proofs.lemmas.Str.{is_utf8-from_IsUtf8}
use Rattle.std.specs.Str.{is_utf8}
use Rattle.zerotrie_core.specs.Items.{keyed}
use Rattle.zerotrie_core.specs.Maps.{Ascends}
use Rattle.zerotrie_any.proofs.MapOrder.{keyed_ascends}
use Rattle.zerotrie_any.proofs.MemberLemmas.{put_all_members, not_utf8}
use Rattle.zerotrie_any.proofs.json.writing.members_of.Goals as goal

pub loop-key-init : goal.loop-key-init
loop-key-init c =
    let ascends : Ascends (keyed (λ k. k.items) c.args.entries.now.entries) = keyed_ascends _ (λ k. k.items) (λ j k. refl) c.args.entries.now.entries c.into_iter-key-iterator.ensures.into_iter_gives.5 in
    let puts = put_all_members (keyed (λ k. k.items) c.args.entries.now.entries) ascends in
    record { puts = search (rules, puts); text = search rules }

pub returns-in_default : goal.returns-in_default
returns-in_default c =
    let fails : is_utf8 c.in-Some.key.now.items ≡ false = not_utf8 c.in-Some.key.now.items (rw c.as_slice.ensures.value at c.in_default.ensures.cases.0) in
    rw (← c.loop-key.invariant.text, c.in-Some.ensures.steps, fails) refl

pub loop-key-preserved : goal.loop-key-preserved
loop-key-preserved c =
    let passes : is_utf8 c.in-Some.key.now.items ≡ true = is_utf8-from_IsUtf8 c.in-Some.key.now.items (rw c.as_slice.ensures.value at c.in-Ok.ensures.cases.1) in
    let text = rw c.in-Some.ensures.steps at c.loop-key.invariant.text in
    record { puts = grind (arith, common_steps, c.loop-key.invariant.puts); text = rw passes at text }
