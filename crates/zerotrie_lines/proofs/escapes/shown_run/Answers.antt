use Rattle.std.proofs.Common.{rules, sym, ◌≡◌, drop}
use Rattle.zerotrie_lines.specs.Escapes.{shown_len}
use Rattle.zerotrie_lines.proofs.WrittenLemmas.{shown_more}
use Rattle.zerotrie_lines.proofs.escapes.shown_run.Goals as goal

pub loop-len-preserved : goal.loop-len-preserved
loop-len-preserved c =
    let key = c.args.bytes.now in
    let len = c.loop-len.len in
    let is : c.shown_len-more.result ≡ shown_len (drop len key) = rw (sym c.split_at.ensures.back) c.shown_len-more.ensures.value in
    (search rules, shown_more key len c.shown_len-more.result c.loop-len.invariant.1 is (search rules))
