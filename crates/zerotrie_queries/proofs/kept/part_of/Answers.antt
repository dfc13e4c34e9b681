use Rattle.std.proofs.Common.{ap}
use Rattle.std.specs.Prelude.{◌&&◌}
use Rattle.zerotrie_core.specs.Kinds.{kind_of}
use Rattle.zerotrie_core.specs.Maps.{begins_with}
use Rattle.zerotrie_queries.proofs.FoldLemmas.{in_range}
use Rattle.zerotrie_queries.proofs.kept.part_of.Goals as goal

pub returns : goal.returns
returns c key =
    let kind = c.args.kind in
    ap (λ b. begins_with (kind_of kind) c.args.choice.prefix.now key && b) (in_range kind c.args.choice c.requires key)
