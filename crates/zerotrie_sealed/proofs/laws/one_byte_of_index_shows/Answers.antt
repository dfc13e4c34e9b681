-- The checksum of the table or of a block is another one, or the header is.
use Rattle.zerotrie_sealed.proofs.IndexLaws.{one_byte_of_index}
use Rattle.zerotrie_sealed.proofs.laws.one_byte_of_index_shows.Goals as goal

pub returns : goal.returns
returns c = one_byte_of_index
