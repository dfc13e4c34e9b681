use Rattle.zerotrie_build.proofs.ItemLemmas.{item_at}
use Rattle.zerotrie_build.proofs.items.ByteSliceWithIndices.get.Goals as goal

pub returns-in-Bytes : goal.returns-in-Bytes
returns-in-Bytes c = rw c.in-Bytes.is (item_at c.in-Bytes.items.now c.args.index _ (rw c.in-Bytes.is at c.requires))

pub returns-in-Str : goal.returns-in-Str
returns-in-Str c = rw (c.in-Str.is, c.as_bytes.ensures.value) (item_at c.in-Str.items.now c.args.index _ (rw c.in-Str.is at c.requires))
