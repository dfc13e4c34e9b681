-- Slices of items, as pairs.
use Rattle.zerotrie_base.specs.Maps.{Pairs}
use Rattle.zerotrie_base.specs.Items.{pairs_of}
use Rattle.zerotrie_build.specs.declared.items.ByteSliceWithIndices.{ByteSliceWithIndices}
use Rattle.zerotrie_build.specs.declared.items.ByteSliceWithIndices.TheVariants.{Bytes, Str}

-- the pairs, each key by its bytes
abbrev pub pairs : ByteSliceWithIndices → Pairs
pairs (Bytes items) = pairs_of items.now
pairs (Str items) = pairs_of items.now
