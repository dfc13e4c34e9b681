use Rattle.std.proofs.Common.{◌++◌, [], ◌∷◌, ap, subst, sym, rules}
use Rattle.std.proofs.lemmas.List.Sorted.{IsPartitionPoint-from_clause}
use Rattle.zerotrie_base.specs.Items.{keyed}
use Rattle.zerotrie_build.specs.passes.OtherCase.{BeginsThen}
use Rattle.zerotrie_build.proofs.RefusalLemmas.Shown.{below_test, partitioned, below_place, from_place, none_begins}
use Rattle.zerotrie_build.proofs.refusal.key_after.Goals as goal

pub returns-then-begins-clause-some : goal.returns-then-begins-clause-some
returns-then-begins-clause-some g c =
    subst (BeginsThen c.args.front.now c.args.byte) (ap (λ e. e.0) c.item_at.ensures) (c.begins.ensures.0 c.if-begins.true)

pub returns-else-begins-clause-none : goal.returns-else-begins-clause-none
returns-else-begins-clause-none g c =
    let key = g.Key.TrieKey.key in
    let items = c.args.items.now in
    let t = c.args.front.now ++ c.args.byte ∷ [] in
    let point = IsPartitionPoint-from_clause (below_test key t) items c.partition_point-place.result c.partition_point-place.ensures.partitioned (partitioned key t items c.requires) (λ a r f' k. search rules) in
    none_begins c.args.front.now c.args.byte (keyed key items) c.partition_point-place.result c.requires
    (below_place key t items c.partition_point-place.result point)
    (from_place key t items c.partition_point-place.result point)
    (λ b. let yes = c.begins.ensures.1 (subst (BeginsThen c.args.front.now c.args.byte) (sym (ap (λ e. e.0) c.item_at.ensures)) b) in let no = c.if-begins.false in cc)
