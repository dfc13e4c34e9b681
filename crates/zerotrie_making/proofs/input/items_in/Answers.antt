use Rattle.std.proofs.lemmas.Option.{IfSome_then}
use Rattle.std.proofs.lemmas.Result.{IfOk-weaker}
use Rattle.zerotrie_lines.specs.Tables.{pairs_of}
use Rattle.zerotrie_making.proofs.MadeLemmas.{as_they_are}
use Rattle.zerotrie_making.proofs.input.items_in.Goals as goal

pub returns-in-Text : goal.returns-in-Text
returns-in-Text c =
    IfOk-weaker c.read_items.result _ _ (λ items h.
    IfSome_then items h (λ list reads. as_they_are c.args.read.source c.in-Text.form c.args.read.lower_case c.args.input.now (pairs_of list.items) c.in-Text.is c.if-not-read.true reads)) c.read_items.ensures.reads
