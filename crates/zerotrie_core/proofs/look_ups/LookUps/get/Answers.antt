use Rattle.std.proofs.Common.{◌<◌, ◌^◌, length, arith}
use Rattle.zerotrie_core.proofs.ReaderLemmas.Starts.{value_from}
use Rattle.zerotrie_core.proofs.look_ups.LookUps.get.Goals as goal

pub returns-clause-value : goal.returns-clause-value
returns-clause-value g c m means =
    let short : length c.start.result.0.now < 2 ^ 64 = omega arith in
    value_from g.K.ZeroTrieWithOptions.kind c.args.self.now c.args.key.now c.start.result.0.now c.start.result.1.now c.get.result c.start.ensures.start short c.get.ensures m means
