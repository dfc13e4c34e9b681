use Rattle.std.proofs.Common.{◌≡◌, take}
use Rattle.zerotrie_base.specs.Kind.{kind_with}
use Rattle.zerotrie_search.specs.Paths.{IsPathIn}
use Rattle.zerotrie_search.proofs.sorted.path.follow.Given as goal

-- a path along the bytes so far
abbrev pub invariant-loop-byte : goal.invariant-loop-byte
invariant-loop-byte g l = (l.key.items ≡ take l.byte-index l.sought) × IsPathIn (kind_with l.options) l.bytes l.key.items l.places.items l.here
