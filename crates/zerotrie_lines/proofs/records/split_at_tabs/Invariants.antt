use Rattle.std.proofs.Common.{◌≡◌, ◌++◌, [], length}
use Rattle.csv.specs.Records.{fields_of, partial_of}
use Rattle.zerotrie_lines.specs.Records.{between_tabs}
use Rattle.zerotrie_lines.proofs.records.split_at_tabs.Given as goal

abbrev pub invariant-loop-field : goal.invariant-loop-field
invariant-loop-field l = (fields_of l.row ++ between_tabs l.rest ≡ between_tabs l.line) × (partial_of l.row ≡ [])

abbrev pub decreases-loop-field : goal.decreases-loop-field
decreases-loop-field l = length l.rest
