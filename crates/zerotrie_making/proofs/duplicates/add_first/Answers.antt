use Rattle.std.proofs.Common.{rules, ◌≡◌, length, ap, ◌∙◌, Some}
use Rattle.std.specs.Prelude.{if◌then◌else◌}
use Rattle.std.specs.Str.{bytes_eq}
use Rattle.std.proofs.lemmas.Map.Text.{btree_map_updates_str}
use Rattle.zerotrie_making.specs.Kept.{place_in}
use Rattle.zerotrie_making.proofs.duplicates.add_first.Goals as goal

pub returns-in_ok-push-in-Ok-2-clause-places : goal.returns-in_ok-push-in-Ok-2-clause-places
returns-in_ok-push-in-Ok-2-clause-places c =
    let n : c.len.result ≡ length c.args.kept.now.items.items = search rules in λ q.
    btree_map_updates_str c.args.item.0.now c.args.places.now c.insert.new.self (Some c.len.result) c.in-Ok.ensures.updates q
    ∙ ap (λ n. if bytes_eq c.args.item.0.now q then Some n else place_in c.args.places.now q) n
