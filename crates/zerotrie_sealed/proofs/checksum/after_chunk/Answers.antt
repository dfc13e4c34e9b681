-- The four words of a chunk are as many parts of the remainder.
use Rattle.std.proofs.Common.{rules}
use Rattle.zerotrie_sealed.proofs.Chunks.{after-chunk}
use Rattle.zerotrie_sealed.proofs.checksum.after_chunk.Goals as goal

pub returns : goal.returns
returns c = cc (after-chunk c.args.remainder c.args.chunk.now (search rules) (search rules))
