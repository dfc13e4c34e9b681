use Rattle.std.proofs.Common.{◌≡◌, drop}
use Rattle.std.specs.List.{list_all}
use Rattle.zerotrie_queries.specs.Printed.{is_raw}
use Rattle.zerotrie_queries.proofs.listing.printable.are_raw.Given as goal

abbrev pub invariant-loop-byte : goal.invariant-loop-byte
invariant-loop-byte l = list_all is_raw (drop l.byte-index l.bytes) ≡ list_all is_raw l.bytes
