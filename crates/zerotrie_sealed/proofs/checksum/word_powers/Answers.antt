-- The four bytes of a word are as many parts of it.
use Rattle.std.proofs.Common.{arith}
use Rattle.zerotrie_sealed.proofs.Chunks.{word-powers}
use Rattle.zerotrie_sealed.proofs.checksum.word_powers.Goals as goal

pub returns : goal.returns
returns c = cc (word-powers c.args.place c.args.word (omega arith))
