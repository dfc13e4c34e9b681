use Rattle.std.proofs.Common.{ap, ◌∙◌, Some}
use Rattle.std.specs.Option.{is_some}
use Rattle.std.specs.Str.{bytes_eq}
use Rattle.std.specs.BTreeMap.{get_by}
use Rattle.std.specs.Cmp.Lexicographic.{slice_cmp}
use Rattle.std.specs.Ordering.{nat_cmp}
use Rattle.std.proofs.lemmas.Map.Text.{btree_map_updates_str}
use Rattle.zerotrie_making.proofs.KeptLemmas.{some_after}
use Rattle.zerotrie_making.proofs.duplicates.is_new.Goals as goal

pub returns-in-Ok-clause-seen : goal.returns-in-Ok-clause-seen
returns-in-Ok-clause-seen c = λ q.
    ap is_some (btree_map_updates_str c.args.key.now c.args.seen.now c.insert.new.self (Some tt) c.in-Ok.ensures.updates q)
    ∙ some_after (bytes_eq c.args.key.now q) (get_by (λ k. slice_cmp nat_cmp q k.now) c.args.seen.now)
