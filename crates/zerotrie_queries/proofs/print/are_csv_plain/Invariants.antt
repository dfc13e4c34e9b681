use Rattle.std.proofs.Common.{◌≡◌, drop}
use Rattle.std.specs.List.{list_all}
use Rattle.zerotrie_queries.specs.Printed.{is_csv_plain}
use Rattle.zerotrie_queries.proofs.print.are_csv_plain.Given as goal

abbrev pub invariant-loop-byte : goal.invariant-loop-byte
invariant-loop-byte l = list_all is_csv_plain (drop l.byte-index l.bytes) ≡ list_all is_csv_plain l.bytes
