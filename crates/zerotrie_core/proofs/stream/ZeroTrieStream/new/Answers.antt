use Rattle.std.proofs.Common.{◌∙◌, ap}
use Rattle.zerotrie_core.specs.Listings.{to_come}
use Rattle.zerotrie_core.specs.listing.Listed.{listed}
use Rattle.zerotrie_base.proofs.MapLemmas.Spans.{with_run-none}
use Rattle.zerotrie_core.proofs.stream.ZeroTrieStream.new.Goals as goal

pub returns-clause-always : goal.returns-clause-always
returns-clause-always g c =
    c.behind.ensures.always ∙ ap to_come (rw c.new.ensures.items (with_run-none (listed g.K.ZeroTrieWithOptions.kind c.args.bytes.now)))

pub returns-clause-lists : goal.returns-clause-lists
returns-clause-lists g c pairs text = c.behind.ensures.lists pairs text ∙ ap to_come (rw c.new.ensures.items (with_run-none pairs))
