use Rattle.std.proofs.Common.{◌++◌, ◌∙◌, ap, append_assoc}
use Rattle.zerotrie_lines.specs.Escapes.{escaped}
use Rattle.zerotrie_lines.proofs.escapes.write_first.Goals as goal

pub returns-clause-text : goal.returns-clause-text
returns-clause-text c =
    let old = c.args.output.now.items in
    let shown = c.split_at.result.0.now in
    let left = c.split_at.result.1.now in
    ap (λ t. t ++ escaped left) c.in_ok-push_bytes.ensures
    ∙ append_assoc old shown (escaped left)
    ∙ ap (λ t. old ++ t) (rw (c.split_at.ensures.front, c.split_at.ensures.back) c.shown_run-len.ensures.text)
