use Rattle.std.proofs.Common.{◌∷◌, []}
use Rattle.zerotrie_core.proofs.ListingLemmas.Passed.{leads_literal, literal_none}
use Rattle.zerotrie_core.proofs.stream.past_literal.Goals as goal

pub returns-in_default : goal.returns-in_default
returns-in_default g c branches stands =
    literal_none g.K.ZeroTrieWithOptions.kind c.args.edge c.args.after.now c.args.left.now c.in_default.ensures c.args.here.rest.now c.requires

pub behind-requires : goal.behind-requires
behind-requires g c = (c.args.edge ∷ [], c.requires.1)

pub returns : goal.returns
returns g c branches stands =
    rw (c.behind.ensures, c.in_ok-push.ensures.items)
    (leads_literal g.K.ZeroTrieWithOptions.kind stands c.args.edge c.args.after.now c.in-Some.more.now c.requires c.in-Some.ensures)
