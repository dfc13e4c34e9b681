use Rattle.std.proofs.Common.{sym, subst, refl, []}
use Rattle.zerotrie_core.specs.listing.Runs.{EndsWith}
use Rattle.zerotrie_core.proofs.ListingLemmas.Left.{ends_drop}
use Rattle.zerotrie_core.proofs.here.Here.after.Goals as goal

pub behind-requires : goal.behind-requires
behind-requires c = subst (EndsWith c.args.self.rest.now) (sym c.split_at.ensures.back) (ends_drop c.args.self.rest.now c.args.self.rest.now c.args.count ([], refl))
