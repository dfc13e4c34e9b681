-- The remainder goes on from the first part to the second.
use Rattle.std.proofs.Common.{◌^◌, ◌-◌}
use Rattle.zerotrie_sealed.proofs.Chunks.{after-append}
use Rattle.zerotrie_sealed.proofs.checksum.crc32c_of_both.Goals as goal

pub returns : goal.returns
returns c = cc (after-append (2 ^ 32 - 1) c.args.front.now c.args.behind.now)
