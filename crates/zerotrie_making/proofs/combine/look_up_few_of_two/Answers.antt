use Rattle.std.proofs.Common.{◌≡◌, false, rules}
use Rattle.zerotrie_core.specs.Kind.{flags}
use Rattle.std.specs.FinMap.{entries}
use Rattle.zerotrie_core.specs.Kinds.{kind_of}
use Rattle.zerotrie_queries.proofs.RecasedLemmas.{entries_ascend}
use Rattle.zerotrie_making.proofs.FewLemmas.{looked_combined, turned_combined, meant_small, few_taken}
use Rattle.zerotrie_making.proofs.combine.look_up_few_of_two.Goals as goal

pub returns-then-are_few : goal.returns-then-are_few
returns-then-are_few c = λ m n one two.
    let first = c.args.first.now in
    let table = c.in_ok-look_up_all.field-0 in
    few_taken c.args.combination c.in-Some.operation (entries m) (entries n) table c.in-Some.ensures.same c.in-Some.ensures.valued (meant_small (kind_of first.kind) first.bytes.now m one)
    (looked_combined c.in-Some.operation (kind_of c.args.second.now.kind) m n table c.in-Some.ensures.takes c.if-are_few.ensures (entries_ascend c.sorted_listing_ascends.ensures m) (c.in_ok-look_up_all.ensures.is m n one two))

pub returns-in_ok-look_up_all-in-Some-turned : goal.returns-in_ok-look_up_all-in-Some-turned
returns-in_ok-look_up_all-in-Some-turned c = λ m n one two.
    let first = c.args.first.now in
    let table = c.in_ok-look_up_all-in-Some-turned.field-0 in
    let exact : (flags (kind_of first.kind)).ignore_case ≡ false = search rules in
    few_taken c.args.combination c.in-Some.operation (entries m) (entries n) table c.in-Some.ensures.same c.in-Some.ensures.valued (meant_small (kind_of first.kind) first.bytes.now m one)
    (turned_combined c.in-Some.operation c.in-Some-turned.turned (entries m) (entries n) table c.in-Some-turned.ensures.same
    (looked_combined c.in-Some-turned.turned (kind_of first.kind) n m table c.in-Some-turned.ensures.takes exact (entries_ascend c.sorted_listing_ascends.ensures n) (c.in_ok-look_up_all-in-Some-turned.ensures.is n m two one)))
