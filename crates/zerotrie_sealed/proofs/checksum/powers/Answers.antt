-- The table is that of the definition.
use Rattle.std.proofs.Common.{refl}
use Rattle.zerotrie_sealed.proofs.Table.{powers-at}
use Rattle.zerotrie_sealed.proofs.checksum.powers.Goals as goal

pub returns : goal.returns
returns c = record { length = refl; each = powers-at }
