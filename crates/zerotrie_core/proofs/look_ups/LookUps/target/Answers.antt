use Rattle.std.proofs.Common.{◌≢◌, []}
use Rattle.zerotrie_core.specs.reader.Starts.{LeadsTo}
use Rattle.zerotrie_core.proofs.ReaderLemmas.Starts.{at_set}
use Rattle.zerotrie_core.proofs.look_ups.LookUps.target.Goals as goal

pub invariant_of-self : goal.invariant_of-self
invariant_of-self g c =
    at_set (λ b target. target.now ≢ [] → LeadsTo g.K.ZeroTrieWithOptions.kind c.self.inside.bytes.now b target.now)
    c.self.inside.targets c.args.byte c.in_ok-target.target c.self.invariant (λ some. c.in_ok-target.ensures)
