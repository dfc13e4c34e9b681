use Rattle.std.proofs.Common.{length}
use Rattle.zerotrie_index.proofs.builder.+repeats_key.Given as goal

abbrev pub decreases-repeats_key : goal.decreases-repeats_key
decreases-repeats_key l = length l.bucket.now
