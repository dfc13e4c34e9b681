use Rattle.zerotrie_build.proofs.WriteLemmas.Numbers.{other_form}
use Rattle.zerotrie_build.proofs.number.plain_bytes.Goals as goal

pub returns-then-latent-eq16 : goal.returns-then-latent-eq16
returns-then-latent-eq16 c = rw c.if-latent-eq16.true c.write_varint_meta3.ensures

pub returns-else-latent-eq16 : goal.returns-else-latent-eq16
returns-else-latent-eq16 c = rw (other_form c.args.latent c.requires c.if-latent-eq16.false) c.write_varint_meta2.ensures
