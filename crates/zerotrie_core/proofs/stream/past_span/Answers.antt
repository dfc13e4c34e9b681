use Rattle.std.proofs.Common.{length, drop}
use Rattle.std.proofs.lemmas.Bool.Decides.{Decides-eqb}
use Rattle.std.proofs.lemmas.Slice.Eq.{starts_is}
use Rattle.zerotrie_core.proofs.ReaderLemmas.LookUps.{span_ends}
use Rattle.zerotrie_core.proofs.ListingLemmas.Left.{span_end}
use Rattle.zerotrie_core.proofs.ListingLemmas.Passed.{leads_span}
use Rattle.zerotrie_core.proofs.stream.past_span.Goals as goal

pub returns-then-not-starts_with : goal.returns-then-not-starts_with
returns-then-not-starts_with g c branches stands =
    let starts = starts_is Decides-eqb c.args.left.now c.args.run.now c.starts_with.result c.starts_with.ensures.value in
    span_ends g.K.ZeroTrieWithOptions.kind c.args.run.now c.args.after.now c.args.left.now (λ after e. (let yes = starts.1 after e in let gone = c.if-not-starts_with.true in absurd (cc))) c.args.here.rest.now c.requires

pub behind-requires : goal.behind-requires
behind-requires g c = span_end g.K.ZeroTrieWithOptions.kind c.args.here.rest.now c.args.run.now c.args.after.now c.requires

pub returns : goal.returns
returns g c branches stands =
    let run' = c.args.run.now in
    let starts = starts_is Decides-eqb c.args.left.now run' c.starts_with.result c.starts_with.ensures.value in
    rw (c.behind.ensures, c.in_ok-extend_from_slice.ensures.items, c.split_at.ensures.back)
    (leads_span g.K.ZeroTrieWithOptions.kind stands run' c.args.after.now (drop (length run') c.args.left.now) c.requires (starts.0 c.if-not-starts_with.false))
