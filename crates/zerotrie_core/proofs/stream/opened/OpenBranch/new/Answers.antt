use Rattle.std.proofs.Common.{sym, subst}
use Rattle.zerotrie_core.specs.listing.Runs.{EndsWith}
use Rattle.zerotrie_core.proofs.ListingLemmas.Left.{ends_drop}
use Rattle.zerotrie_core.proofs.stream.opened.OpenBranch.new.Goals as goal

pub behind-requires : goal.behind-requires
behind-requires c =
    subst (EndsWith c.args.here.rest.now) (sym c.targets.ensures)
    (ends_drop c.args.here.rest.now _ _ (ends_drop c.args.here.rest.now c.args.branch.behind.now c.args.branch.edges c.requires))
