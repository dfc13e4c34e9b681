use Rattle.std.proofs.Common.{◌∙◌, ap, drop, map}
use Rattle.csv.specs.Reading.{strip_bom}
use Rattle.zerotrie_lines.specs.Lines.{ended, lines_of}
use Rattle.zerotrie_lines.proofs.LineLemmas.{lines_behind}
use Rattle.zerotrie_lines.proofs.RecordLemmas.{behind_header}
use Rattle.zerotrie_lines.proofs.reading.pair_text.Goals as goal

pub returns-in-Present : goal.returns-in-Present
returns-in-Present c = λ end.
    let text = c.without_mark-rest.ensures in
    let lines = ap lines_of c.take_line.ensures.rest ∙ lines_behind c.without_mark-rest.result.now ∙ ap (λ t. drop 1 (lines_of t)) text in
    ap (map (ended end)) (lines ∙ behind_header c.args.header (lines_of (strip_bom c.args.input.now)) c.in-Present.is)
