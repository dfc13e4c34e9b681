use Rattle.std.proofs.Common.{◌≡◌, take}
use Rattle.zerotrie_making.specs.Places.{line_after, column_after}
use Rattle.zerotrie_making.proofs.json_places.line_and_column.Given as goal

abbrev pub invariant-loop-byte : goal.invariant-loop-byte
invariant-loop-byte l = (l.line ≡ line_after (take l.byte-index l.front)) × (l.column ≡ column_after (take l.byte-index l.front))
