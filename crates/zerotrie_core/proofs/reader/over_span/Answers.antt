use Rattle.std.proofs.Common.{length, drop}
use Rattle.std.proofs.lemmas.Bool.Decides.{Decides-eqb}
use Rattle.std.proofs.lemmas.Slice.Eq.{starts_is}
use Rattle.zerotrie_core.proofs.ReaderLemmas.LookUps.{span_ends, span_goes}
use Rattle.zerotrie_core.proofs.reader.over_span.Goals as goal

pub returns-then-starts_with : goal.returns-then-starts_with
returns-then-starts_with c kind =
    let run' = c.args.run.now in
    let starts = starts_is Decides-eqb c.args.key.now run' c.starts_with.result c.starts_with.ensures.value in
    rw c.split_at.ensures.back
    (span_goes kind run' c.args.rest.now c.args.key.now (drop (length run') c.args.key.now) (starts.0 c.if-starts_with.true))

pub returns-else-starts_with : goal.returns-else-starts_with
returns-else-starts_with c kind =
    let run' = c.args.run.now in
    let starts = starts_is Decides-eqb c.args.key.now run' c.starts_with.result c.starts_with.ensures.value in
    span_ends kind run' c.args.rest.now c.args.key.now (λ after e. (let yes = starts.1 after e in let gone = c.if-starts_with.false in absurd (cc)))
