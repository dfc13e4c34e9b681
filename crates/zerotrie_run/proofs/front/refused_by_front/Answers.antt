use Rattle.std.proofs.Common.{arith, subst}
use Rattle.zerotrie_run.specs.Runs.{IsOpenAt}
use Rattle.zerotrie_run.proofs.FrontLemmas.{refused_unread}
use Rattle.zerotrie_run.proofs.front.refused_by_front.Goals as goal

pub returns : goal.returns
returns g c = λ story opens.
    refused_unread g.F.OpenFile.held c.in-File.open c.args.file c.args.takes_index story c.read_part.new.room c.in_ok-why.why c.hint_of-hint.result (omega (arith, c.read_part.auto.room))
    c.in_ok-why.ensures c.hint_of-hint.ensures c.in-Ok.ensures.part (subst (IsOpenAt g.F.OpenFile.held c.args.file.place story) c.in-File.is opens)
