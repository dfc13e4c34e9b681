use Rattle.std.proofs.Common.{◌∙◌, ap}
use Rattle.std.specs.Prelude.{◌&&◌}
use Rattle.zerotrie_core.specs.Kinds.{kind_of}
use Rattle.zerotrie_core.specs.Maps.{begins_with}
use Rattle.zerotrie_queries.specs.Chosen.{is_in}
use Rattle.zerotrie_queries.specs.Kept.{spares}
use Rattle.zerotrie_queries.proofs.kept.conditions.Goals as goal

pub returns : goal.returns
returns c key =
    let kind = c.args.kind in
    let choice = c.args.choice in
    ap (λ b. b && spares c.no_pattern.result key) (c.part_of.ensures key)
    ∙ ap (λ b. (begins_with (kind_of kind) choice.prefix.now key && is_in kind choice.range key) && b) (c.no_pattern.ensures key)
