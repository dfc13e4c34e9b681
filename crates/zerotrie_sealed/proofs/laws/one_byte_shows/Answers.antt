-- The checksum is another one, or the header is.
use Rattle.zerotrie_sealed.proofs.Damage.{one_byte}
use Rattle.zerotrie_sealed.proofs.laws.one_byte_shows.Goals as goal

pub returns : goal.returns
returns c = one_byte
