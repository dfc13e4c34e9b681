use Rattle.std.proofs.Common.{length}
use Rattle.zerotrie_making.proofs.json_places.first_misfit.Given as goal

abbrev pub decreases-loop-token : goal.decreases-loop-token
decreases-loop-token l = length l.reader
