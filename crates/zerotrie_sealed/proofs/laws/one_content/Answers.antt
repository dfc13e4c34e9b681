-- The number and the bytes stand in the file.
use Rattle.zerotrie_sealed.proofs.Headers.{one_content}
use Rattle.zerotrie_sealed.proofs.laws.one_content.Goals as goal

pub returns : goal.returns
returns c = one_content
