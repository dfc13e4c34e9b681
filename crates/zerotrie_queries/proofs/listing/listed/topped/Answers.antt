use Rattle.std.proofs.Common.{None, ap}
use Rattle.zerotrie_search.specs.Searches.{accepted_left}
use Rattle.zerotrie_queries.specs.Kept.{keeps, may_keep}
use Rattle.zerotrie_queries.specs.declared.listing.listed.ListedPairs.TheVariants.{Held}
use Rattle.zerotrie_queries.proofs.GivenLemmas.{gives_greatest}
use Rattle.zerotrie_queries.proofs.listing.listed.topped.Goals as goal

pub returns : goal.returns
returns c = λ pick kind bytes gives pairs lists.
    rw c.in-Some.is (gives_greatest c.in-Some.most pick kind bytes c.args.pairs (record { pairs = Held c.in_ok-held.held; condition = None }) tt (λ valid. ap (accepted_left (may_keep keeps None)) (c.in_ok-held.ensures valid)) gives pairs lists)
