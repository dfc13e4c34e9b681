use Rattle.std.proofs.Common.{◌≢◌, []}
use Rattle.zerotrie_core.specs.reader.Starts.{LeadsTo}
use Rattle.zerotrie_core.proofs.ReaderLemmas.Starts.{at_replicate}
use Rattle.zerotrie_core.proofs.look_ups.LookUps.new.Goals as goal

pub invariant_of-result : goal.invariant_of-result
invariant_of-result g c =
    at_replicate (λ b target. target.now ≢ [] → LeadsTo g.K.ZeroTrieWithOptions.kind c.args.bytes.now b target.now)
    256 _ (λ b some. absurd (some c.split_at.ensures.front))
