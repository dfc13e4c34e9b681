use Rattle.zerotrie_core.specs.Items.{pairs_of}
use Rattle.zerotrie_making.proofs.ShownLemmas.{at_fault}
use Rattle.zerotrie_making.proofs.tries.why_unindexed.Goals as goal

pub returns-in-Some-clause-some : goal.returns-in-Some-clause-some
returns-in-Some-clause-some c =
    at_fault c.args.sorted (pairs_of c.args.items.now) c.in-Some.refusal c.read_key_at.ensures (rw c.in-Some.is at c.in_ok-refusal.ensures)
