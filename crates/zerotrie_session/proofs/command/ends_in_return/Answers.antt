use Rattle.std.proofs.Common.{◌∷◌, [], ◌-◌, length, take}
use Rattle.std.proofs.lemmas.Bool.Decides.{Decides-eqb}
use Rattle.std.proofs.lemmas.Slice.Eq.{ends_is}
use Rattle.zerotrie_session.proofs.command.ends_in_return.Goals as goal

pub returns : goal.returns
returns c =
    let line = c.args.line.now in
    let is = ends_is Decides-eqb line (13 ∷ []) c.ends_with.result c.ends_with.ensures.value in
    (λ yes. (take (length line - 1) line, is.0 yes), λ ends. is.1 ends.0 ends.1)
