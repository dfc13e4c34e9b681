use Rattle.std.proofs.Common.{◌∙◌, ap, sym, drop, take, get_or, Some}
use Rattle.zerotrie_c.proofs.FrontLemmas.{key_of_number}
use Rattle.zerotrie_c.proofs.entries.key_at.Goals as goal

pub returns : goal.returns
returns c =
    key_of_number c.args.number c.args.bytes.now c.args.ends.now c.requires
    ∙ ap (λ from. Some (drop from (take (get_or c.args.ends.now c.args.number 0) c.args.bytes.now))) (sym c.start_of.ensures)
    ∙ ap Some (sym c.key_between.ensures)
