use Rattle.std.proofs.Common.{subst}
use Rattle.std.specs.Prelude.{◌↔◌, IsTrue}
use Rattle.zerotrie_core.specs.Kind.{simple_ascii, perfect_hash, extended_capacity}
use Rattle.zerotrie_core.specs.WellFormed.{IsWellFormed}
use Rattle.zerotrie_any.proofs.trie.ZeroTrie.is_well_formed.Goals as goal

pub returns-in-SimpleAscii : goal.returns-in-SimpleAscii
returns-in-SimpleAscii g c =
    rw c.in-SimpleAscii.is (subst (λ b. IsTrue c.is_well_formed.result ↔ IsWellFormed simple_ascii b) c.bytes-bytes.ensures c.is_well_formed.ensures)

pub returns-in-PerfectHash : goal.returns-in-PerfectHash
returns-in-PerfectHash g c =
    rw c.in-PerfectHash.is (subst (λ b. IsTrue c.is_well_formed-in-PerfectHash.result ↔ IsWellFormed perfect_hash b) c.bytes-bytes.ensures c.is_well_formed-in-PerfectHash.ensures)

pub returns-in-ExtendedCapacity : goal.returns-in-ExtendedCapacity
returns-in-ExtendedCapacity g c =
    rw c.in-ExtendedCapacity.is (subst (λ b. IsTrue c.is_well_formed-in-ExtendedCapacity.result ↔ IsWellFormed extended_capacity b) c.bytes-bytes.ensures c.is_well_formed-in-ExtendedCapacity.ensures)
