use Rattle.zerotrie_queries.proofs.LimitLemmas.{any_left}
use Rattle.zerotrie_queries.proofs.listing.listed.has_pair.Goals as goal

pub returns : goal.returns
returns g c =
    let after = c.advance.new.self in
    any_left (g.P.TrieListing.IsValid c.args.pairs) c.advance.result (g.P.TrieListing.left c.args.pairs) (g.P.TrieListing.left after) (g.P.TrieListing.current after) c.advance.ensures.lists
